-- Sorted lists of numbers, and what a change to a list results in.
use Rattle.std.proofs.Common.{Ordering, Less, ◌⊎◌, ◌≡◌, ℕ, ◌+◌, Bool, true, false, not, cond, ◌&&◌, ◌||◌, eqb, leb, List, [], ◌∷◌, ◌++◌, length, drop, filter, insert, Ok, refl, sym, ap, ◌∙◌, subst, arith, ⊎_elim, append_assoc, take_at, drop_at, length-append, le-leb, eq-eqb}
use Rattle.std.specs.List.{AllByRecursion}
use Rattle.std.specs.List.Sorted.{IsStrictlySortedBy}
use Rattle.std.proofs.lemmas.Bool.{cases_Bool, cases_eq, false≢true, not-true, ne_eqb}
use Rattle.std.proofs.lemmas.List.{length_push}
use Rattle.std.proofs.lemmas.Bool.Decides.{nat_tests}
use Rattle.jm_base.specs.declared.identifiers.AddedItem.{AddedItem}
use Rattle.jm_base.specs.Splices.{has, insert_all, without, with_index, IsOneWay, Touches, NothingChanges, BecomesTheOther, BringsUpToDate}

pub all_has : (P : ℕ → Type 0) (xs : List ℕ) (e : ℕ) → AllByRecursion P xs → has xs e ≡ true → P e
all_has P [] e all h = absurd (false≢true h)
all_has P (x ∷ xs) e all h =
    ⊎_elim
    (λ (s : x ≡ e). subst P s all.0)
    (λ (n : x ≡ e → ⊥). all_has P xs e all.1 (let f : eqb x e ≡ false = ne_eqb x e n in rw f at h))
    (cases_eq x e)

pub has_head : (x : ℕ) (xs : List ℕ) → has (x ∷ xs) x ≡ true
has_head x xs = let s : eqb x x ≡ true = eq-eqb x x refl in rw s refl

pub has_other : (x e : ℕ) (xs : List ℕ) → (x ≡ e → ⊥) → has (x ∷ xs) e ≡ has xs e
has_other x e xs n = let f : eqb x e ≡ false = ne_eqb x e n in rw f refl

pub has_not_head : (B : ℕ → ℕ → Ordering) → IsOneWay B → (x : ℕ) (xs : List ℕ) → IsStrictlySortedBy B (x ∷ xs) → has xs x ≡ true → ⊥
unfolding IsStrictlySortedBy
has_not_head B asym x xs up h =
    let s = all_has (λ y. B x y ≡ Less) xs x up.0 h in asym x x s s

-- two rising lists of the same ids are one
pub same_list : (B : ℕ → ℕ → Ordering) → IsOneWay B → (xs ys : List ℕ) → IsStrictlySortedBy B xs → IsStrictlySortedBy B ys → ((e : ℕ) → has xs e ≡ has ys e) → xs ≡ ys
unfolding IsStrictlySortedBy
same_list B asym [] [] up vp same = refl
same_list B asym [] (y ∷ ys) up vp same = absurd (false≢true (same y ∙ has_head y ys))
same_list B asym (x ∷ xs) [] up vp same = absurd (false≢true (sym (same x) ∙ has_head x xs))
same_list B asym (x ∷ xs) (y ∷ ys) up vp same =
    let heads : x ≡ y =
    ⊎_elim
    (λ (s : x ≡ y). s)
    (λ (n : x ≡ y → ⊥).
    absurd
    (asym x y
    (all_has (λ z. B x z ≡ Less) xs y up.0 (sym (has_other x y xs n) ∙ (same y ∙ has_head y ys)))
    (all_has (λ z. B y z ≡ Less) ys x vp.0 (sym (has_other y x ys (λ s. n (sym s))) ∙ (sym (same x) ∙ has_head x xs)))))
    (cases_eq x y) in
    let rest : (e : ℕ) → has xs e ≡ has ys e = λ e.
    ⊎_elim
    (λ (s : x ≡ e).
    let none : (b : Bool) → (b ≡ true → ⊥) → b ≡ false = λ b f. ⊎_elim (λ (t : b ≡ true). absurd (f t)) (λ (t : b ≡ false). t) (cases_Bool b) in
    let one : has xs e ≡ false = none (has xs e) (λ h. has_not_head B asym x xs up (subst (λ z. has xs z ≡ true) (sym s) h)) in
    let two : has ys e ≡ false = none (has ys e) (λ h. has_not_head B asym y ys vp (subst (λ z. has ys z ≡ true) (sym s ∙ heads) h)) in
    one ∙ sym two)
    (λ (n : x ≡ e → ⊥). sym (has_other x e xs n) ∙ (same e ∙ has_other y e ys (λ s. n (heads ∙ s))))
    (cases_eq x e) in
    ap (λ z. z ∷ xs) heads ∙ ap (λ zs. y ∷ zs) (same_list B asym xs ys up.1 vp.1 rest)

filter_step : (keep : ℕ → Bool) (x e : ℕ) (f h : Bool) → f ≡ (keep e && h) → (keep x ≡ true) ⊎ (keep x ≡ false) → (x ≡ e) ⊎ (x ≡ e → ⊥) → cond (keep x) (eqb x e || f) f ≡ (keep e && (eqb x e || h))
filter_step keep x e f h ih k s = grind (arith, nat_tests)

pub has-filter : (keep : ℕ → Bool) (xs : List ℕ) (e : ℕ) → has (filter keep xs) e ≡ (keep e && has xs e)
has-filter keep [] e = ⊎_elim (λ (k : keep e ≡ true). rw k refl) (λ (k : keep e ≡ false). rw k refl) (cases_Bool (keep e))
has-filter keep (x ∷ xs) e =
    cond_has (keep x) ∙ filter_step keep x e (has (filter keep xs) e) (has xs e) (has-filter keep xs e) (cases_Bool (keep x)) (cases_eq x e)
  where
    cond_has : (b : Bool) → has (cond b (x ∷ filter keep xs) (filter keep xs)) e ≡ cond b (eqb x e || has (filter keep xs) e) (has (filter keep xs) e)
    cond_has true = refl
    cond_has false = refl

pub All-filter : (P : ℕ → Type 0) (keep : ℕ → Bool) (xs : List ℕ) → AllByRecursion P xs → AllByRecursion P (filter keep xs)
All-filter P keep [] all = all
All-filter P keep (x ∷ xs) all =
    ⊎_elim
    (λ (k : keep x ≡ true). rw k (all.0, All-filter P keep xs all.1))
    (λ (k : keep x ≡ false). rw k (All-filter P keep xs all.1))
    (cases_Bool (keep x))

pub rising-filter : (B : ℕ → ℕ → Ordering) (keep : ℕ → Bool) (xs : List ℕ) → IsStrictlySortedBy B xs → IsStrictlySortedBy B (filter keep xs)
unfolding IsStrictlySortedBy
rising-filter B keep [] up = up
rising-filter B keep (x ∷ xs) up =
    ⊎_elim
    (λ (k : keep x ≡ true). rw k (All-filter (λ y. B x y ≡ Less) keep xs up.0, rising-filter B keep xs up.1))
    (λ (k : keep x ≡ false). rw k (rising-filter B keep xs up.1))
    (cases_Bool (keep x))

-- each id of the list passes
abbrev pub AllPass : (ℕ → Bool) → List ℕ → Type 0
AllPass keep xs = AllByRecursion (λ x. keep x ≡ true) xs

pub AllPass-filter : (keep : ℕ → Bool) (xs : List ℕ) → AllPass keep (filter keep xs)
AllPass-filter keep [] = tt
AllPass-filter keep (x ∷ xs) =
    ⊎_elim
    (λ (k : keep x ≡ true). rw k (k, AllPass-filter keep xs))
    (λ (k : keep x ≡ false). rw k (AllPass-filter keep xs))
    (cases_Bool (keep x))

all_agree : (keep : ℕ → Bool) (B C : ℕ → ℕ → Ordering) → ((a b : ℕ) → keep a ≡ true → keep b ≡ true → B a b ≡ C a b) → (x : ℕ) → keep x ≡ true → (xs : List ℕ) → AllPass keep xs → AllByRecursion (λ y. B x y ≡ Less) xs → AllByRecursion (λ y. C x y ≡ Less) xs
all_agree keep B C same x k [] pass all = tt
all_agree keep B C same x k (y ∷ ys) pass all =
    (sym (same x y k pass.0) ∙ all.0, all_agree keep B C same x k ys pass.1 all.1)

pub rising_agree : (keep : ℕ → Bool) (B C : ℕ → ℕ → Ordering) → ((a b : ℕ) → keep a ≡ true → keep b ≡ true → B a b ≡ C a b) → (xs : List ℕ) → AllPass keep xs → IsStrictlySortedBy B xs → IsStrictlySortedBy C xs
unfolding IsStrictlySortedBy
rising_agree keep B C same [] pass up = tt
rising_agree keep B C same (x ∷ xs) pass up =
    (all_agree keep B C same x pass.0 xs pass.1 up.0, rising_agree keep B C same xs pass.1 up.1)

inserted_at : (front rest : List ℕ) (i x : ℕ) → i ≡ length front → insert (front ++ rest) i x ≡ (front ++ x ∷ []) ++ rest
inserted_at front rest i x e =
    ap (λ zs. zs ++ x ∷ drop i (front ++ rest)) (take_at front rest i (sym e))
    ∙ (ap (λ zs. front ++ x ∷ zs) (drop_at front rest i (sym e)) ∙ sym (append_assoc front (x ∷ []) rest))

insert_step : (place : ℕ) (front rest : List ℕ) (i x : ℕ) (more : List AddedItem) → i ≡ length front → insert_all place (front ++ rest) (record { number = x; index = i } ∷ more) ≡ insert_all (place + 1) ((front ++ x ∷ []) ++ rest) more
insert_step place front rest i x more e =
    let fits : leb i (length (front ++ rest)) ≡ true = le-leb i (length (front ++ rest)) (omega (arith, length-append front rest)) in
    rw fits (ap (λ zs. insert_all (place + 1) zs more) (inserted_at front rest i x e))

-- inserting what is touched, each at its index, gives the list
pub insert_rest : (touched : ℕ → Bool) (place : ℕ) (front xs : List ℕ) (i : ℕ) → i ≡ length front → insert_all place (front ++ filter (λ x. not (touched x)) xs) (with_index touched i xs) ≡ Ok (front ++ xs)
insert_rest touched place front [] i e = refl
insert_rest touched place front (x ∷ xs) i e =
    let rest = filter (λ z. not (touched z)) xs in
    let more = with_index touched (i + 1) xs in
    let next : i + 1 ≡ length (front ++ x ∷ []) = ap (λ n. n + 1) e ∙ sym (length_push front x) in
    ⊎_elim
    (λ (t : touched x ≡ true).
    rw t
    (insert_step place front rest i x more e
    ∙ (insert_rest touched (place + 1) (front ++ x ∷ []) xs (i + 1) next ∙ ap Ok (append_assoc front (x ∷ []) xs))))
    (λ (t : touched x ≡ false).
    rw t
    (ap (λ zs. insert_all place zs more) (sym (append_assoc front (x ∷ []) rest))
    ∙ (insert_rest touched place (front ++ x ∷ []) xs (i + 1) next ∙ ap Ok (append_assoc front (x ∷ []) xs))))
    (cases_Bool (touched x))

filter_same : (p q : ℕ → Bool) → ((x : ℕ) → p x ≡ q x) → (xs : List ℕ) → filter p xs ≡ filter q xs
filter_same p q same [] = refl
filter_same p q same (x ∷ xs) =
    ap (λ b. cond b (x ∷ filter p xs) (filter p xs)) (same x) ∙ ap (λ zs. cond (q x) (x ∷ zs) zs) (filter_same p q same xs)

pub nothing_changes : NothingChanges
nothing_changes list = ap Ok (all_stay list)
  where
    all_stay : (xs : List ℕ) → without xs [] ≡ xs
    all_stay [] = refl
    all_stay (x ∷ xs) = ap (λ zs. x ∷ zs) (all_stay xs)

pub becomes_the_other : BecomesTheOther
becomes_the_other old new removed same =
    ap (λ zs. insert_all 0 zs (with_index (has removed) 0 new)) same ∙ insert_rest (has removed) 0 [] new 0 refl

-- what is not touched is one list before and after
same_untouched : (B C : ℕ → ℕ → Ordering) (touched : ℕ → Bool) (old new : List ℕ) → IsOneWay C → Touches touched B C old new →
    IsStrictlySortedBy B old → IsStrictlySortedBy C new → filter (λ x. not (touched x)) old ≡ filter (λ x. not (touched x)) new
same_untouched B C touched old new asym t up vp =
    let keep : ℕ → Bool = λ x. not (touched x) in
    let untouched : (x : ℕ) → keep x ≡ true → touched x ≡ false = λ x k. not-true (touched x) k in
    let up' : IsStrictlySortedBy C (filter keep old) = rising_agree keep B C (λ a b j k. t.order a b (untouched a j) (untouched b k)) (filter keep old) (AllPass-filter keep old) (rising-filter B keep old up) in
    let ids : (e : ℕ) → has (filter keep old) e ≡ has (filter keep new) e = λ e.
    has-filter keep old e ∙ (both_kept (touched e) (has old e) (has new e) (t.members e) ∙ sym (has-filter keep new e)) in
    same_list C asym (filter keep old) (filter keep new) up' (rising-filter C keep new vp) ids
  where
    both_kept : (t a b : Bool) → (t ≡ false → a ≡ b) → (not t && a) ≡ (not t && b)
    both_kept true a b f = refl
    both_kept false a b f = f refl

pub brings_up_to_date : BringsUpToDate
brings_up_to_date touched B C old new removed asym t up vp removes =
    let keep : ℕ → Bool = λ x. not (touched x) in
    let left : without old removed ≡ filter keep old = filter_same (λ x. not (has removed x)) keep (λ x. ap not (removes x)) old in
    ap (λ zs. insert_all 0 zs (with_index touched 0 new)) (left ∙ same_untouched B C touched old new asym t up vp) ∙ insert_rest touched 0 [] new 0 refl

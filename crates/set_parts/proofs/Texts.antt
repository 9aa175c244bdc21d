-- Sets of texts in groups: a key is found by its group and its text.
use Rattle.std.proofs.Common.{◌≡◌, ℕ, Bool, true, false, cond, ◌&&◌, ◌||◌, ◌<◌, eqb, ltb, List, [], ◌∷◌, Option, Some, None, refl, sym, ap, ◌∙◌, arith, ⊎_elim, bytes_eq}
use Rattle.std.specs.List.{list_any}
use Rattle.std.specs.Option.{option_cmp}
use Rattle.std.specs.Ordering.{is_eq, nat_cmp, ordering_then}
use Rattle.std.specs.Cmp.{nat_eq_equiv}
use Rattle.std.specs.Cmp.Lexicographic.{slice_cmp, nat_list_eq_equiv}
use Rattle.std.proofs.lemmas.Bool.{cases_Bool, ltb-true, ne_eqb}
use Rattle.std.proofs.lemmas.Map.Text.{is_eq-slice_cmp}
use Rattle.std.proofs.lemmas.Slice.Eq.{bytes_eq-Decides}
use Rattle.mail_counts.specs.Tidy.{same_parent}

-- tests that agree at each item agree on a list
pub any_same : {A : Type 0} (p q : A → Bool) → ((x : A) → p x ≡ q x) → (xs : List A) → list_any p xs ≡ list_any q xs
any_same p q same [] = refl
any_same p q same (x ∷ xs) = ap (λ b. b || list_any p xs) (same x) ∙ ap (λ b. q x || b) (any_same p q same xs)

pub texts_flip : (s t : List ℕ) → bytes_eq s t ≡ bytes_eq t s
texts_flip s t = nat_list_eq_equiv.symm s t

pub same_parent_flip : (g h : Option ℕ) → same_parent g h ≡ same_parent h g
same_parent_flip None None = refl
same_parent_flip None (Some y) = refl
same_parent_flip (Some x) None = refl
same_parent_flip (Some x) (Some y) = nat_eq_equiv.symm x y

numbers_tested : (x y : ℕ) (s t : List ℕ) → is_eq (ordering_then (nat_cmp x y) (slice_cmp nat_cmp s t)) ≡ (eqb x y && bytes_eq s t)
numbers_tested x y s t =
    ⊎_elim
    (λ (lt : ltb x y ≡ true).
    let less : x < y = ltb-true x y lt in
    let other : eqb x y ≡ false = ne_eqb x y (λ e. omega arith) in
    rw lt (rw other refl))
    (λ (ge : ltb x y ≡ false).
    rw ge
    (⊎_elim
    (λ (same : eqb x y ≡ true). rw same (is_eq-slice_cmp s t))
    (λ (other : eqb x y ≡ false). rw other refl)
    (cases_Bool (eqb x y))))
    (cases_Bool (ltb x y))

-- a key compares as equal to those of its group and its text
pub key_tested : (g h : Option ℕ) (s t : List ℕ) → is_eq (ordering_then (option_cmp nat_cmp g h) (slice_cmp nat_cmp s t)) ≡ (same_parent h g && bytes_eq t s)
key_tested None None s t = is_eq-slice_cmp s t ∙ texts_flip s t
key_tested None (Some y) s t = refl
key_tested (Some x) None s t = refl
key_tested (Some x) (Some y) s t =
    numbers_tested x y s t ∙ (ap (λ b. b && bytes_eq s t) (nat_eq_equiv.symm x y) ∙ ap (λ b. eqb y x && b) (texts_flip s t))

pub cond_or : (b c : Bool) → cond b true c ≡ (b || c)
cond_or true c = refl
cond_or false c = refl

-- a key was added to those that are held
pub added_key : (a b old now : Bool) → a ≡ b → old ≡ now → cond a true old ≡ (b || now)
added_key a b old now e f = ap (λ t. cond t true old) e ∙ (cond_or b old ∙ ap (λ t. b || t) f)

pub or_flip : (a b : Bool) → (a || b) ≡ (b || a)
or_flip true true = refl
or_flip true false = refl
or_flip false true = refl
or_flip false false = refl

-- texts that are equal in byte order are the same
pub text_equal : (a b : List ℕ) → is_eq (slice_cmp nat_cmp a b) ≡ true → a ≡ b
text_equal a b e = (bytes_eq-Decides a b).0 (sym (is_eq-slice_cmp a b) ∙ e)

-- Items of lists, and tests of them.
use Rattle.std.proofs.Common.{◌≡◌, ℕ, ◌<◌, Bool, true, false, ◌&&◌, ◌||◌, cond, eqb, List, [], ◌∷◌, map, filter, Option, Some, refl, sym, ap, ap₂, subst, arith, ◌⊎◌, inl, inr, ⊎_elim, eq-eqb, ne_eqb}
use Rattle.std.specs.List.{AllByRecursion, list_all, list_any}
use Rattle.std.proofs.lemmas.Bool.{and_parts, or_cases, true≢false}
use Rattle.mail_records.specs.Tables.{IsTable, lookup}

-- x is one of the items
abbrev pub In : {X : Type 0} → X → List X → Type 0
In x [] = ⊥
In x (y ∷ ys) = (x ≡ y) ⊎ In x ys

pub same_tests : (a b : Bool) → (a ≡ true → b ≡ true) → (b ≡ true → a ≡ true) → a ≡ b
same_tests true b f g = sym (f refl)
same_tests false true f g = g refl
same_tests false false f g = refl

pub any_found : {X : Type 0} (p : X → Bool) (xs : List X) → list_any p xs ≡ true → (x : X) × In x xs × (p x ≡ true)
any_found p [] h = absurd (true≢false (sym h))
any_found p (x ∷ xs) h =
    ⊎_elim (λ (e : p x ≡ true). (x, inl refl, e))
    (λ (e : list_any p xs ≡ true). let w = any_found p xs e in (w.0, inr w.1, w.2)) (or_cases (p x) (list_any p xs) h)

or_right : (a b : Bool) → b ≡ true → (a || b) ≡ true
or_right true b e = refl
or_right false b e = e

or_left : (a b : Bool) → a ≡ true → (a || b) ≡ true
or_left true b e = refl
or_left false b e = absurd (true≢false (sym e))

pub any_here : {X : Type 0} (p : X → Bool) (xs : List X) (x : X) → In x xs → p x ≡ true → list_any p xs ≡ true
any_here p [] x i h = absurd i
any_here p (y ∷ ys) x (inl same) h = or_left (p y) (list_any p ys) (subst (λ z. p z ≡ true) same h)
any_here p (y ∷ ys) x (inr deep) h = or_right (p y) (list_any p ys) (any_here p ys x deep h)

and_both : (a b : Bool) → a ≡ true → b ≡ true → (a && b) ≡ true
and_both true b e f = f
and_both false b e f = absurd (true≢false (sym e))

pub all_at : {X : Type 0} (p : X → Bool) (xs : List X) (x : X) → list_all p xs ≡ true → In x xs → p x ≡ true
all_at p [] x h i = absurd i
all_at p (y ∷ ys) x h (inl same) = subst (λ z. p z ≡ true) (sym same) (and_parts (p y) (list_all p ys) h).0
all_at p (y ∷ ys) x h (inr deep) = all_at p ys x (and_parts (p y) (list_all p ys) h).1 deep

pub all_from : {X : Type 0} (p : X → Bool) (xs : List X) → ((x : X) → In x xs → p x ≡ true) → list_all p xs ≡ true
all_from p [] f = refl
all_from p (y ∷ ys) f = and_both (p y) (list_all p ys) (f y (inl refl)) (all_from p ys (λ x i. f x (inr i)))

pub any_same : {X : Type 0} (p q : X → Bool) (xs : List X) → ((x : X) → p x ≡ q x) → list_any p xs ≡ list_any q xs
any_same p q [] f = refl
any_same p q (x ∷ xs) f = ap₂ (λ a b. a || b) (f x) (any_same p q xs f)

keep_first : {X : Type 0} (b : Bool) (x y : X) (zs : List X) → b ≡ true → x ≡ y → In x (cond b (y ∷ zs) zs)
keep_first true x y zs e same = inl same
keep_first false x y zs e same = absurd (true≢false (sym e))

keep_rest : {X : Type 0} (b : Bool) (x y : X) (zs : List X) → In x zs → In x (cond b (y ∷ zs) zs)
keep_rest true x y zs i = inr i
keep_rest false x y zs i = i

pub in_kept : {X : Type 0} (test : X → Bool) (xs : List X) (x : X) → In x xs → test x ≡ true → In x (filter test xs)
in_kept test [] x i h = absurd i
in_kept test (y ∷ ys) x (inl same) h = keep_first (test y) x y (filter test ys) (subst (λ z. test z ≡ true) same h) same
in_kept test (y ∷ ys) x (inr deep) h = keep_rest (test y) x y (filter test ys) (in_kept test ys x deep h)

was_kept : {X : Type 0} (b : Bool) (x y : X) (zs : List X) → In x (cond b (y ∷ zs) zs) → ((x ≡ y) × (b ≡ true)) ⊎ In x zs
was_kept true x y zs (inl same) = inl (same, refl)
was_kept true x y zs (inr deep) = inr deep
was_kept false x y zs i = inr i

pub of_kept : {X : Type 0} (test : X → Bool) (xs : List X) (x : X) → In x (filter test xs) → In x xs × (test x ≡ true)
of_kept test [] x i = absurd i
of_kept test (y ∷ ys) x i =
    ⊎_elim (λ (w : (x ≡ y) × (test y ≡ true)). (inl w.0, subst (λ z. test z ≡ true) (sym w.0) w.1))
    (λ (deep : In x (filter test ys)). let w = of_kept test ys x deep in (inr w.0, w.1))
    (was_kept (test y) x y (filter test ys) i)

pub in_map : {X Y : Type 0} (f : X → Y) (xs : List X) (y : Y) → In y (map f xs) → (x : X) × In x xs × (y ≡ f x)
in_map f [] y i = absurd i
in_map f (x ∷ xs) y (inl same) = (x, inl refl, same)
in_map f (x ∷ xs) y (inr deep) = let w = in_map f xs y deep in (w.0, inr w.1, w.2)

pub map_in : {X Y : Type 0} (f : X → Y) (xs : List X) (x : X) → In x xs → In (f x) (map f xs)
map_in f [] x i = absurd i
map_in f (y ∷ ys) x (inl same) = inl (ap f same)
map_in f (y ∷ ys) x (inr deep) = inr (map_in f ys x deep)

pub all_in : {X : Type 0} (P : X → Type 0) (xs : List X) (x : X) → AllByRecursion P xs → In x xs → P x
all_in P [] x all i = absurd i
all_in P (y ∷ ys) x all (inl same) = subst P (sym same) all.0
all_in P (y ∷ ys) x all (inr deep) = all_in P ys x all.1 deep

was_found : {R : Type 0} (b : Bool) (x r : R) (o : Option R) → cond b (Some x) o ≡ Some r → (r ≡ x) ⊎ (o ≡ Some r)
was_found true x r o e = let same : r ≡ x = cc in inl same
was_found false x r o e = inr e

-- a record that is found is one of them
pub found_in : {R : Type 0} (number : R → ℕ) (n : ℕ) (rows : List R) (r : R) → lookup number n rows ≡ Some r → In r rows
found_in number n [] r e = absurd (cc)
found_in number n (x ∷ xs) r e =
    ⊎_elim (λ (same : r ≡ x). inl same) (λ (deep : lookup number n xs ≡ Some r). inr (found_in number n xs r deep))
    (was_found (eqb (number x) n) x r (lookup number n xs) e)

-- in a table each record is found by its number
pub in_found : {R : Type 0} (number : R → ℕ) (rows : List R) (r : R) → IsTable number rows → In r rows → lookup number (number r) rows ≡ Some r
in_found number [] r table i = absurd i
in_found number (x ∷ xs) r table (inl same) = rw (eq-eqb (number x) (number r) (ap number (sym same))) (ap Some (sym same))
in_found number (x ∷ xs) r table (inr deep) =
    let less : number x < number r = all_in (λ y. number x < number y) xs r table.0 deep in
    rw (ne_eqb (number x) (number r) (λ (e : number x ≡ number r). omega (arith, e, less))) (in_found number xs r table.1 deep)

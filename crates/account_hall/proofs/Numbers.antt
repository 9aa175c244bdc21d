-- Numbers that are all there: where each number from 1 to n is in a list of n numbers, none is there twice.
use Rattle.std.proofs.Common.{◌≡◌, ◌≢◌, ◌⊎◌, inl, inr, ℕ, zero, suc, ◌+◌, ◌<◌, ◌≤◌, Bool, true, false, eqb, eq-eqb, if◌then◌else◌, List, [], ◌∷◌, ◌++◌, length, refl, sym, ◌∙◌, subst, append_assoc, arith, length-append}
use Rattle.std.specs.Prelude.{⊤}
use Rattle.std.specs.List.{AllByRecursion}
use Rattle.std.proofs.lemmas.Bool.{eqb-true, true≢false}

abbrev pub IsIn : ℕ → List ℕ → Type 0
IsIn n [] = ⊥
IsIn n (x ∷ xs) = (x ≡ n) ⊎ IsIn n xs

-- no number is there twice
abbrev pub Differ : List ℕ → Type 0
Differ [] = ⊤
Differ (x ∷ xs) = AllByRecursion (λ m. m ≢ x) xs × Differ xs

-- the numbers but for this one
abbrev without : ℕ → List ℕ → List ℕ
without n [] = []
without n (x ∷ xs) = if eqb x n then without n xs else x ∷ without n xs

short_by : (n x : ℕ) (xs : List ℕ) (b : Bool) → length (without n xs) ≤ length xs → length (if b then without n xs else x ∷ without n xs) ≤ suc (length xs)
short_by n x xs true most = omega (arith, most)
short_by n x xs false most = omega (arith, most)

short : (n : ℕ) (xs : List ℕ) → length (without n xs) ≤ length xs
short n [] = omega arith
short n (x ∷ xs) = short_by n x xs (eqb x n) (short n xs)

less_by : (n x : ℕ) (xs : List ℕ) (b : Bool) → eqb x n ≡ b → (IsIn n xs → length (without n xs) + 1 ≤ length xs) → (x ≡ n) ⊎ IsIn n xs → length (if b then without n xs else x ∷ without n xs) + 1 ≤ suc (length xs)
less_by n x xs true test less here = omega (arith, short n xs)
less_by n x xs false test less (inl same) = absurd (true≢false (sym (eq-eqb x n same) ∙ test))
less_by n x xs false test less (inr i) = omega (arith, less i)

less : (n : ℕ) (xs : List ℕ) → IsIn n xs → length (without n xs) + 1 ≤ length xs
less n [] here = absurd here
less n (x ∷ xs) here = less_by n x xs (eqb x n) refl (less n xs) here

keeps_by : (n m x : ℕ) (xs : List ℕ) (b : Bool) → eqb x n ≡ b → m ≢ n → (IsIn m xs → IsIn m (without n xs)) → (x ≡ m) ⊎ IsIn m xs → IsIn m (if b then without n xs else x ∷ without n xs)
keeps_by n m x xs true test apart keeps (inl same) = absurd (apart (sym same ∙ eqb-true x n test))
keeps_by n m x xs true test apart keeps (inr i) = keeps i
keeps_by n m x xs false test apart keeps (inl same) = inl same
keeps_by n m x xs false test apart keeps (inr i) = inr (keeps i)

keeps : (n m : ℕ) (xs : List ℕ) → m ≢ n → IsIn m xs → IsIn m (without n xs)
keeps n m [] apart here = here
keeps n m (x ∷ xs) apart here = keeps_by n m x xs (eqb x n) refl apart (keeps n m xs apart) here

-- a list in which each number from 1 to n is has at least n numbers
enough : (n : ℕ) (xs : List ℕ) → ((m : ℕ) → 0 < m → m ≤ n → IsIn m xs) → n ≤ length xs
enough zero xs all = omega arith
enough (suc n) xs all =
    let rest = enough n (without (suc n) xs) (λ m low most. keeps (suc n) m xs (λ same. absurd (omega (arith, same, most))) (all m low (omega (arith, most)))) in
    omega (arith, rest, less (suc n) xs (all (suc n) (omega arith) (omega arith)))

-- one that is in the rest may be taken away
drop_one : (front xs : List ℕ) (x n : ℕ) → IsIn x xs → IsIn n (front ++ x ∷ xs) → IsIn n (front ++ xs)
drop_one [] xs x n again (inl same) = subst (λ m. IsIn m xs) same again
drop_one [] xs x n again (inr i) = i
drop_one (y ∷ ys) xs x n again (inl same) = inl same
drop_one (y ∷ ys) xs x n again (inr i) = inr (drop_one ys xs x n again i)

not_again : (x : ℕ) (xs : List ℕ) → (IsIn x xs → ⊥) → AllByRecursion (λ m. m ≢ x) xs
not_again x [] none = tt
not_again x (y ∷ ys) none = ((λ same. none (inl same)), not_again x ys (λ i. none (inr i)))

differ_from : (front xs : List ℕ) → ((m : ℕ) → 0 < m → m ≤ length (front ++ xs) → IsIn m (front ++ xs)) → Differ xs
differ_from front [] all = tt
differ_from front (x ∷ xs) all = (
  not_again x xs (λ again. absurd (omega (arith, enough (length (front ++ x ∷ xs)) (front ++ xs) (λ m low most. drop_one front xs x m again (all m low most)), length-append front (x ∷ xs), length-append front xs))),
  differ_from (front ++ x ∷ []) xs (subst (λ (ys : List ℕ). (m : ℕ) → 0 < m → m ≤ length ys → IsIn m ys) (sym (append_assoc front (x ∷ []) xs)) all),
)

pub all_differ : (xs : List ℕ) → ((m : ℕ) → 0 < m → m ≤ length xs → IsIn m xs) → Differ xs
all_differ xs all = differ_from [] xs all

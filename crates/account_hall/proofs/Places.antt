-- Lists of which the items at two indices are changed.
use Rattle.std.proofs.Common.{◌≡◌, ◌≢◌, ℕ, zero, suc, ◌<◌, List, [], ◌∷◌, ◌++◌, take, drop, get_or, Some, slice_get, length, refl, sym, ap, ◌∙◌, arith}
use Rattle.std.proofs.Math.ListN.{set}
use Rattle.std.proofs.lemmas.List.{length-set}

pub set_twice : {A : Type 0} (xs : List A) (i : ℕ) (x y : A) → set (set xs i x) i y ≡ set xs i y
set_twice [] i x y = refl
set_twice (z ∷ zs) zero x y = refl
set_twice (z ∷ zs) (suc i) x y = ap (λ ys. z ∷ ys) (set_twice zs i x y)

pub set_apart : {A : Type 0} (xs : List A) (i j : ℕ) (x y : A) → i ≢ j → set (set xs i x) j y ≡ set (set xs j y) i x
set_apart [] i j x y apart = refl
set_apart (z ∷ zs) zero zero x y apart = absurd (apart refl)
set_apart (z ∷ zs) zero (suc j) x y apart = refl
set_apart (z ∷ zs) (suc i) zero x y apart = refl
set_apart (z ∷ zs) (suc i) (suc j) x y apart = ap (λ ys. z ∷ ys) (set_apart zs i j x y (λ same. apart (ap suc same)))

pub set_there : {A : Type 0} (xs : List A) (i : ℕ) (x y : A) → slice_get xs i ≡ Some x → slice_get (set xs i y) i ≡ Some y
set_there [] i x y there = absurd (cc there)
set_there (z ∷ zs) zero x y there = refl
set_there (z ∷ zs) (suc i) x y there = set_there zs i x y there

pub set_elsewhere : {A : Type 0} (xs : List A) (i j : ℕ) (y : A) → i ≢ j → slice_get (set xs i y) j ≡ slice_get xs j
set_elsewhere [] i j y apart = refl
set_elsewhere (z ∷ zs) zero zero y apart = absurd (apart refl)
set_elsewhere (z ∷ zs) zero (suc j) y apart = refl
set_elsewhere (z ∷ zs) (suc i) zero y apart = refl
set_elsewhere (z ∷ zs) (suc i) (suc j) y apart = set_elsewhere zs i j y (λ same. apart (ap suc same))

-- the first of two changes is made anew
pub set_under : {A : Type 0} (xs : List A) (i j : ℕ) (x y z : A) → i ≢ j → set (set (set xs i x) j y) i z ≡ set (set xs i z) j y
set_under xs i j x y z apart =
    ap (λ ys. set ys i z) (set_apart xs i j x y apart) ∙ (set_twice (set xs j y) i x z ∙ sym (set_apart xs i j z y apart))

pub flipped : (i j : ℕ) → i ≢ j → j ≢ i
flipped i j apart same = apart (sym same)

-- ---- a list that was split at an index

-- the first item of the second part is changed
pub set_dropped : {A : Type 0} (xs : List A) (n : ℕ) (y : A) → take n xs ++ set (drop n xs) 0 y ≡ set xs n y
set_dropped [] zero y = refl
set_dropped [] (suc n) y = refl
set_dropped (z ∷ zs) zero y = refl
set_dropped (z ∷ zs) (suc n) y = ap (λ ys. z ∷ ys) (set_dropped zs n y)

pub set_second : {A : Type 0} (xs front back : List A) (n : ℕ) (y z : A) → front ≡ take n xs → back ≡ drop n xs → y ≡ z → front ++ set back 0 y ≡ set xs n z
set_second xs front back n y z first second same =
    ap (λ ys. ys ++ set back 0 y) first ∙ (ap (λ ys. take n xs ++ set ys 0 y) second ∙ (set_dropped xs n y ∙ ap (set xs n) same))

take_all : {A : Type 0} (xs ys : List A) → take (length xs) (xs ++ ys) ≡ xs
take_all [] [] = refl
take_all [] (y ∷ ys) = refl
take_all (x ∷ xs) ys = ap (λ zs. x ∷ zs) (take_all xs ys)

-- the same of a vector, which has its first `len` items of what was lent
pub set_lent : {A : Type 0} (xs front back : List A) (n len : ℕ) (y z : A) → front ≡ take n xs → back ≡ drop n xs → y ≡ z → len ≡ length xs
    → take len ((front ++ set back 0 y) ++ drop (length (front ++ set back 0 y)) xs) ≡ set xs n z
set_lent xs front back n len y z first second same count =
    let ws = front ++ set back 0 y in
    let is : ws ≡ set xs n z = set_second xs front back n y z first second same in
    let as_long : len ≡ length ws = count ∙ sym (ap length is ∙ length-set xs n z) in
    ap (λ m. take m (ws ++ drop (length ws) xs)) as_long ∙ (take_all ws (drop (length ws) xs) ∙ is)

-- an item of the second part, and one of the first
pub get_dropped : {A : Type 0} (xs : List A) (n : ℕ) (d : A) → get_or (drop n xs) 0 d ≡ get_or xs n d
get_dropped [] zero d = refl
get_dropped [] (suc n) d = refl
get_dropped (z ∷ zs) zero d = refl
get_dropped (z ∷ zs) (suc n) d = get_dropped zs n d

pub get_taken : {A : Type 0} (xs : List A) (n i : ℕ) (d : A) → i < n → get_or (take n xs) i d ≡ get_or xs i d
get_taken [] zero i d low = absurd (omega (arith, low))
get_taken [] (suc n) i d low = refl
get_taken (z ∷ zs) zero i d low = absurd (omega (arith, low))
get_taken (z ∷ zs) (suc n) zero d low = refl
get_taken (z ∷ zs) (suc n) (suc i) d low = get_taken zs n i d (omega (arith, low))

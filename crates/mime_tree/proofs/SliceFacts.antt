-- The bytes between two offsets of a list.
use Rattle.std.proofs.Common.{◌≡◌, ℕ, zero, suc, ◌+◌, ◌-◌, ◌≤◌, List, [], ◌∷◌, length, take, drop, refl, ap, ◌∙◌, arith, length-drop}
use Rattle.std.specs.Prelude.{slice_range}
use Rattle.std.proofs.lemmas.List.{drop-take, drop-drop, length-take-le, take_all}

take_within : (n k : ℕ) (xs : List ℕ) → n ≤ k → take n (take k xs) ≡ take n xs
take_within zero k xs h = refl
take_within (suc n) zero xs h = absurd (omega arith)
take_within (suc n) (suc k) [] h = refl
take_within (suc n) (suc k) (x ∷ xs) h = ap (λ t. x ∷ t) (take_within n k xs (omega arith))

pub length-slice : (xs : List ℕ) (a e : ℕ) → a ≤ e → e ≤ length xs → length (slice_range xs a e) ≡ e - a
length-slice xs a e h k = length-take-le (e - a) (drop a xs) (omega (arith, length-drop a xs))

-- its prefix
pub take-slice : (xs : List ℕ) (a e n : ℕ) → a + n ≤ e → take n (slice_range xs a e) ≡ slice_range xs a (a + n)
take-slice xs a e n h =
    let count : n ≡ a + n - a = omega arith in
    take_within n (e - a) (drop a xs) (omega arith) ∙ ap (λ k. take k (drop a xs)) count

-- what follows its prefix
pub drop-slice : (xs : List ℕ) (a e n : ℕ) → a + n ≤ e → drop n (slice_range xs a e) ≡ slice_range xs (a + n) e
drop-slice xs a e n h =
    let count : e - a ≡ n + (e - (a + n)) = omega arith in
    ap (λ k. drop n (take k (drop a xs))) count ∙ drop-take n (e - (a + n)) (drop a xs) ∙ ap (take (e - (a + n))) (drop-drop n a xs)

pub slice_whole : (xs : List ℕ) → slice_range xs 0 (length xs) ≡ xs
slice_whole xs =
    let count : length xs - 0 ≡ length xs = omega arith in
    ap (λ k. take k xs) count ∙ take_all (length xs) xs (omega arith)

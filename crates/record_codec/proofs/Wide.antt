-- What holds of each item of a list in memory, by a loop over the items.
use Rattle.std.proofs.Common.{◌≡◌, ℕ, zero, suc, ◌+◌, ◌^◌, ◌<◌, ◌≤◌, List, [], ◌∷◌, length, get_or, take, subst, add-one, arith}
use Rattle.std.specs.List.{AllByRecursion}
use Rattle.record_codec.specs.Widths.{FitsIn64Bits}
use Rattle.record_codec.specs.Offsets.{AreBytes}

one_more : {A : Type 0} (P : A → Type 0) (xs : List A) (i : ℕ) (x : A) → i < length xs → x ≡ get_or xs i x → P x → AllByRecursion P (take i xs) → AllByRecursion P (take (suc i) xs)
one_more P [] i x lt is p h = absurd (omega (arith, lt))
one_more P (y ∷ ys) zero x lt is p h = (subst P is p, tt)
one_more P (y ∷ ys) (suc i) x lt is p h = (h.0, one_more P ys i x (omega (arith, lt)) is p h.1)

pub all_more : {A : Type 0} (P : A → Type 0) (xs : List A) (i : ℕ) (x : A) → i < length xs → x ≡ get_or xs i x → P x → AllByRecursion P (take i xs) → AllByRecursion P (take (i + 1) xs)
all_more P xs i x lt is p h = rw (add-one i) (one_more P xs i x lt is p h)

pub all_done : {A : Type 0} (P : A → Type 0) (xs : List A) (i : ℕ) → length xs ≤ i → AllByRecursion P (take i xs) → AllByRecursion P xs
all_done P [] i le h = tt
all_done P (y ∷ ys) zero le h = absurd (omega (arith, le))
all_done P (y ∷ ys) (suc i) le h = (h.0, all_done P ys i (omega (arith, le)) h.1)

pub all_fit : (xs : List ℕ) → ((i : ℕ) → get_or xs i 0 < 2 ^ 64) → AllByRecursion FitsIn64Bits xs
all_fit [] h = tt
all_fit (x ∷ xs) h = (h 0, all_fit xs (λ i. h (suc i)))

pub all_bytes : (xs : List ℕ) → ((i : ℕ) → get_or xs i 0 < 256) → AreBytes xs
all_bytes [] h = tt
all_bytes (x ∷ xs) h = (h 0, all_bytes xs (λ i. h (suc i)))

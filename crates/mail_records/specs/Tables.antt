-- A finite map from numbers to records, as the list of its records in number order. `number` gives
-- a record's number.
use Rattle.std.specs.Prelude.{ℕ, ◌<◌, ◌≤◌, not, nat_lt, ◌==◌, if◌then◌else◌, List, [], ◌∷◌, length, take, drop, Option, Some, None, filter, ⊤}
use Rattle.std.specs.List.{AllByRecursion}
use Rattle.jm_base.specs.Splices.{has}

-- the record of a number
abbrev pub lookup : {R : Type 0} → (R → ℕ) → ℕ → List R → Option R
lookup number n [] = None
lookup number n (r ∷ rs) = if number r == n then Some r else lookup number n rs

-- with this record at the index of its number
abbrev pub put : {R : Type 0} → (R → ℕ) → R → List R → List R
put number r [] = r ∷ []
put number r (x ∷ xs) =
    if nat_lt (number r) (number x)
    then r ∷ x ∷ xs
    else if number r == number x then r ∷ xs else x ∷ put number r xs

-- without the record of this number
abbrev pub without : {R : Type 0} → (R → ℕ) → ℕ → List R → List R
without number n rs = filter (λ r. not (number r == n)) rs

-- without the records of these numbers
abbrev pub without_all : {R : Type 0} → (R → ℕ) → List ℕ → List R → List R
without_all number ns rs = filter (λ r. not (has ns (number r))) rs

-- the numbers rise strictly: each record is there once
abbrev pub IsTable : {R : Type 0} → (R → ℕ) → List R → Type 0
IsTable number [] = ⊤
IsTable number (r ∷ rs) = AllByRecursion (λ x. number r < number x) rs × IsTable number rs

-- i is the index of the first record whose number is not below n
pub record IsPlace {R : Type 0} (number : R → ℕ) (n : ℕ) (rows : List R) (i : ℕ) : Type 0 where
  pub within : i ≤ length rows
  pub before : AllByRecursion (λ r. number r < n) (take i rows)
  pub from : AllByRecursion (λ r. n ≤ number r) (drop i rows)

-- the records from this index on have numbers that are not below n
pub record IsFrom {R : Type 0} (number : R → ℕ) (n : ℕ) (rows : List R) (i : ℕ) : Type 0 where
  pub within : i ≤ length rows
  pub from : AllByRecursion (λ r. n ≤ number r) (drop i rows)

-- the numbers in use are those from 1 and below the next one
pub record IsNumbered {R : Type 0} (number : R → ℕ) (rows : List R) (next : ℕ) : Type 0 where
  pub next_from_one : 1 ≤ next
  pub from_one : AllByRecursion (λ r. 1 ≤ number r) rows
  pub below_next : AllByRecursion (λ r. number r < next) rows

-- the records of a table, and for how many more there is room
pub record Rows (R : Type 0) : Type 0 where
  pub rows : List R
  pub spare : ℕ

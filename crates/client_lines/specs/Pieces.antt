-- What was written of a text that waits.
use Rattle.std.specs.Prelude.{◌≡◌, ℕ, List, ◌++◌, take, Option}
use Rattle.std.specs.Io.KnownBytes.{Appends}

-- of the text some was written, and this waits now
abbrev pub HasPut : List ℕ → List ℕ → Option (List ℕ) → Option (List ℕ) → Type 0
HasPut text waits out out' =
    (written : List ℕ) × Appends out out' written × (text ≡ written ++ waits)

-- a prefix of the text was written
abbrev pub HasBegun : List ℕ → Option (List ℕ) → Option (List ℕ) → Type 0
HasBegun text out out' = (n : ℕ) × Appends out out' (take n text)

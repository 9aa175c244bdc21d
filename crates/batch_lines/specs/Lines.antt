-- The lines of an input.
use Rattle.std.specs.Prelude.{◌≡◌, ℕ, List, [], ◌∷◌, ◌++◌, if◌then◌else◌, ◌==◌, false}
use Rattle.std.specs.List.{AllByRecursion}

-- the byte that ends a line
abbrev pub line_feed : ℕ
line_feed = 10

abbrev pub onto_first : ℕ → List (List ℕ) → List (List ℕ)
onto_first x [] = (x ∷ []) ∷ []
onto_first x (l ∷ ls) = (x ∷ l) ∷ ls

-- The bytes before, between and after the line feeds. The last line is not ended by a line feed,
-- and may be empty.
abbrev pub lines_of : List ℕ → List (List ℕ)
lines_of [] = [] ∷ []
lines_of (x ∷ xs) = if x == line_feed then [] ∷ lines_of xs else onto_first x (lines_of xs)

abbrev pub all_but_last : List (List ℕ) → List (List ℕ)
all_but_last [] = []
all_but_last (l ∷ []) = []
all_but_last (l ∷ k ∷ ls) = l ∷ all_but_last (k ∷ ls)

-- the lines that a line feed ends
abbrev pub ended_lines : List ℕ → List (List ℕ)
ended_lines bytes = all_but_last (lines_of bytes)

-- no line feed is among the bytes
abbrev pub IsOneLine : List ℕ → Type 0
IsOneLine = AllByRecursion (λ x. (x == line_feed) ≡ false)

-- these lines, each with its line feed
abbrev pub joined : List (List ℕ) → List ℕ
joined [] = []
joined (l ∷ ls) = l ++ line_feed ∷ joined ls

-- the bytes are these lines, each ended by a line feed, and then the bytes of a line that is not
-- ended
pub record IsCut (bytes : List ℕ) (lines : List (List ℕ)) (last : List ℕ) : Type 0 where
  pub is : bytes ≡ joined lines ++ last
  pub each : AllByRecursion IsOneLine lines
  pub open_line : IsOneLine last

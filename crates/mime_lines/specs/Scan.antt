-- The first line of a list with the lines that continue it, and the lines after those.
use Rattle.std.specs.Prelude.{ℕ, List, [], ◌∷◌, ◌++◌, if◌then◌else◌}
use Rattle.mime_lines.specs.Fields.{goes_on}

-- the lines at the start that continue, as one text, and the lines after them
abbrev pub followers : List (List ℕ) → List ℕ
followers [] = []
followers (l ∷ ls) = if goes_on l then l ++ followers ls else []

abbrev pub others : List (List ℕ) → List (List ℕ)
others [] = []
others (l ∷ ls) = if goes_on l then others ls else l ∷ ls

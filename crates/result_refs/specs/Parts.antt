-- The parts of a path after its first.
use Rattle.std.specs.Prelude.{ℕ, List, [], ◌∷◌}
use Rattle.jm_json.specs.Pointer.{cut}

abbrev pub later_parts : List ℕ → List (List ℕ)
later_parts [] = []
later_parts (x ∷ path) = cut path

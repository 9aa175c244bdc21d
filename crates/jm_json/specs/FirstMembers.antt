-- For private clauses: which of two lists of members begins with the lower key.
use Rattle.std.specs.Prelude.{ℕ, List, [], ◌∷◌, Option, Some, None}
use Rattle.std.specs.Ordering.{nat_cmp}
use Rattle.std.specs.Cmp.Lexicographic.{slice_cmp}
use Rattle.std.specs.declared.cmp.Ordering.{Ordering}
use Rattle.std.specs.declared.cmp.Ordering.TheVariants.{Less, Greater}
use Rattle.jm_json.specs.Tree.{Tree}

-- how the first key of the second list compares with that of the first; a list with no member comes
-- last
abbrev pub first_order : List (List ℕ × Tree) → List (List ℕ × Tree) → Option Ordering
first_order [] [] = None
first_order [] (u ∷ us) = Some Less
first_order (l ∷ ls) [] = Some Greater
first_order (l ∷ ls) (u ∷ us) = Some (slice_cmp nat_cmp u.0 l.0)

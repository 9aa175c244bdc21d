-- The parts within a list of parts are fewer than the list's.
use Rattle.std.specs.Prelude.{◌≤◌, max, List, [], ◌∷◌}
use Rattle.std.proofs.Common.{arith}
use denote.Param.Weighed.{most}
use Rattle.mime_type.specs.PartTrees.{none, part_count}
use Rattle.mime_type.specs.PartViews.{joined}
use Rattle.mime_type.specs.declared.part.Part.{Part}
use Rattle.mime_type.specs.declared.part.Parts.TheDeep.{deep-Part}

pub parts_deep : (ps : List Part) → max (most deep-Part ps) 0 ≤ part_count (joined ps none)
parts_deep [] = omega arith
parts_deep (p ∷ ps) = omega (arith, parts_deep ps)

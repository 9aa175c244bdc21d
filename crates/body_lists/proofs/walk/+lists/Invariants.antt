use Rattle.std.proofs.Common.{◌≡◌, true, ◌+◌, ◌*◌, drop}
use Rattle.mime_type.specs.PartTrees.{none, part_count}
use Rattle.mime_type.specs.PartViews.{part_before, joined}
use Rattle.body_lists.specs.Lists.{both, given}
use Rattle.body_lists.specs.Views.{lists_of, open_of, enclosing_of}
use Rattle.body_lists.proofs.walk.+lists.Given as goal

abbrev pub decreases-add_part : goal.decreases-add_part
decreases-add_part l = 2 * part_count (part_before l.part.now none)

abbrev pub decreases-add_parts : goal.decreases-add_parts
decreases-add_parts l = 2 * part_count (joined l.parts.now none) + 1

abbrev pub invariant-add_parts-loop-part : goal.invariant-add_parts-loop-part
invariant-add_parts-loop-part l =
    both (lists_of l.out) (given (enclosing_of l.place) l.first (open_of l.taking) (joined (drop l.part-index l.parts) none))
    ≡ both (lists_of l.fn.out) (given (enclosing_of l.place) true (open_of l.fn.taking) (joined l.parts none))

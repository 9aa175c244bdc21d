use Rattle.std.proofs.Common.{◌≡◌, ◌+◌, ◌*◌, ◌++◌, drop}
use Rattle.mime_type.specs.PartTrees.{none, part_count}
use Rattle.mime_type.specs.PartViews.{part_before, joined}
use Rattle.mime_tree.specs.PartLimit.{walked}
use Rattle.mail_view.specs.Views.{nodes_of}
use Rattle.mail_view.proofs.part_list.+walk.Given as goal

abbrev pub decreases-add_part : goal.decreases-add_part
decreases-add_part l = 2 * part_count (part_before l.part.now none)

abbrev pub decreases-add_parts : goal.decreases-add_parts
decreases-add_parts l = 2 * part_count (joined l.parts.now none) + 1

abbrev pub invariant-add_parts-loop-part : goal.invariant-add_parts-loop-part
invariant-add_parts-loop-part l = nodes_of l.walk.items ++ walked (joined (drop l.part-index l.parts) none) ≡ nodes_of l.fn.walk.items ++ walked (joined l.parts none)

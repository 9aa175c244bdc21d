use Rattle.std.proofs.Common.{◌≡◌, ◌+◌, ◌*◌, drop}
use Rattle.mime_type.specs.PartTrees.{none, part_count}
use Rattle.mime_type.specs.PartViews.{part_before, joined}
use Rattle.mail_summary.specs.Leaves.{leaf_numbered}
use Rattle.mail_summary.proofs.leaves.+find_leaf.Given as goal

abbrev pub decreases-find_leaf : goal.decreases-find_leaf
decreases-find_leaf l = 2 * part_count (part_before l.part.now none)

abbrev pub decreases-find_leaf_within : goal.decreases-find_leaf_within
decreases-find_leaf_within l = 2 * part_count (joined l.parts.now none) + 1

abbrev pub invariant-find_leaf_within-loop-part : goal.invariant-find_leaf_within-loop-part
invariant-find_leaf_within-loop-part l = leaf_numbered l.number (joined (drop l.part-index l.parts) none) ≡ leaf_numbered l.number (joined l.parts none)

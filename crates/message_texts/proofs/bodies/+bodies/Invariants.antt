use Rattle.std.proofs.Common.{◌≡◌, ◌+◌, ◌*◌, ◌++◌, drop}
use Rattle.mime_type.specs.PartTrees.{none, part_count}
use Rattle.mime_type.specs.PartViews.{part_before, joined}
use Rattle.mime_tree.specs.PartLimit.{walked}
use Rattle.message_texts.specs.Texts.{part_texts}
use Rattle.message_texts.proofs.bodies.+bodies.Given as goal

abbrev pub decreases-push_texts : goal.decreases-push_texts
decreases-push_texts l = 2 * part_count (part_before l.part.now none)

abbrev pub decreases-push_all_texts : goal.decreases-push_all_texts
decreases-push_all_texts l = 2 * part_count (joined l.parts.now none) + 1

abbrev pub invariant-push_all_texts-loop-part : goal.invariant-push_all_texts-loop-part
invariant-push_all_texts-loop-part l =
    l.texts ++ part_texts l.bytes (walked (joined (drop l.part-index l.parts) none)) ≡ l.initial.texts ++ part_texts l.bytes (walked (joined l.parts none))

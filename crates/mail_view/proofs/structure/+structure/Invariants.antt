use Rattle.std.proofs.Common.{◌≡◌, ◌+◌, ◌*◌, ◌++◌, drop}
use Rattle.mime_type.specs.PartTrees.{none, part_count}
use Rattle.mime_type.specs.PartViews.{part_before, joined}
use Rattle.mail_view.specs.Parts.{structures}
use Rattle.mail_view.proofs.structure.+structure.Given as goal

abbrev pub decreases-write_structure : goal.decreases-write_structure
decreases-write_structure l = 2 * part_count (part_before l.part.now none)

abbrev pub decreases-write_structures : goal.decreases-write_structures
decreases-write_structures l = 2 * part_count (joined l.parts.now none) + 1

abbrev pub invariant-write_structures-loop-part : goal.invariant-write_structures-loop-part
invariant-write_structures-loop-part l =
    structures l.showing.bytes.now l.showing.blob.now l.showing.asked.now (joined l.parts none)
    ≡ l.items ++ structures l.showing.bytes.now l.showing.blob.now l.showing.asked.now (joined (drop l.part-index l.parts) none)

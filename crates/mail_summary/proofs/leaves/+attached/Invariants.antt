use Rattle.std.proofs.Common.{◌≡◌, ◌+◌, ◌*◌, drop}
use Rattle.std.specs.List.{list_any}
use Rattle.mime_type.specs.PartTrees.{none, part_count}
use Rattle.mime_type.specs.PartViews.{part_before, joined}
use Rattle.mime_tree.specs.PartLimit.{walked}
use Rattle.mail_summary.specs.Leaves.{shows_attachment}
use Rattle.mail_summary.proofs.leaves.+attached.Given as goal

abbrev pub decreases-has_shown_attachment : goal.decreases-has_shown_attachment
decreases-has_shown_attachment l = 2 * part_count (part_before l.part.now none)

abbrev pub decreases-has_shown_attachment_within : goal.decreases-has_shown_attachment_within
decreases-has_shown_attachment_within l = 2 * part_count (joined l.parts.now none) + 1

abbrev pub invariant-has_shown_attachment_within-loop-part : goal.invariant-has_shown_attachment_within-loop-part
invariant-has_shown_attachment_within-loop-part l =
    list_any (shows_attachment l.attachments) (walked (joined (drop l.part-index l.parts) none)) ≡ list_any (shows_attachment l.attachments) (walked (joined l.parts none))

use Rattle.std.proofs.Common.{sym, arith}
use Rattle.mail_summary.proofs.LeafFacts.{part_size}
use Rattle.mail_summary.proofs.leaves.+attached.Goals as goal

pub has_shown_attachment_within-has_shown_attachment-requires : goal.has_shown_attachment_within-has_shown_attachment-requires
has_shown_attachment_within-has_shown_attachment-requires t c =
    let size = rw (sym c.part-item.is) at (part_size c.args.parts.now c.loop-part.part-index c.part-item.result (omega arith)) in
    (omega (arith, size, c.decreases), tt)

use Rattle.std.proofs.Common.{length, sym, arith}
use Rattle.mail_view.proofs.TreeFacts.{part_size, placed_part}
use Rattle.message_texts.proofs.bodies.+bodies.Goals as goal

pub push_all_texts-push_texts-requires : goal.push_all_texts-push_texts-requires
push_all_texts-push_texts-requires t c =
    let size = rw (sym c.part-item.is) at (part_size c.args.parts.now c.loop-part.part-index c.part-item.result (omega arith)) in
    let placed = rw (sym c.part-item.is) at (placed_part (length c.args.bytes.now) c.args.parts.now c.loop-part.part-index c.part-item.result (omega arith) c.requires) in
    (omega (arith, size, c.decreases), placed)

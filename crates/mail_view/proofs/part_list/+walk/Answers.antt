use Rattle.std.proofs.Common.{sym, arith}
use Rattle.mail_view.proofs.TreeFacts.{part_size}
use Rattle.mail_view.proofs.part_list.+walk.Goals as goal

pub add_parts-add_part-requires : goal.add_parts-add_part-requires
add_parts-add_part-requires t c =
    let size = rw (sym c.part-item.is) at (part_size c.args.parts.now c.loop-part.part-index c.part-item.result (omega arith)) in
    (omega (arith, size, c.decreases), tt)

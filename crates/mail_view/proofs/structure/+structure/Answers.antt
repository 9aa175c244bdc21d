use Rattle.std.proofs.Common.{sym, arith}
use Rattle.mail_view.proofs.TreeFacts.{part_size, placed_part}
use Rattle.mail_view.proofs.structure.+structure.Goals as goal

pub write_structures-write_structure-requires : goal.write_structures-write_structure-requires
write_structures-write_structure-requires t c =
    let size = rw (sym c.part-item.is) at (part_size c.args.parts.now c.loop-part.part-index c.part-item.result (omega arith)) in
    let placed = rw (sym c.part-item.is) at (placed_part _ c.args.parts.now c.loop-part.part-index c.part-item.result (omega arith) c.requires.placed) in
    (omega (arith, size, c.decreases), ((placed.0, placed.1, tt), c.requires.sizes))

use Rattle.std.proofs.Common.{sym, arith}
use Rattle.mail_view.proofs.TreeFacts.{placed_at}
use Rattle.mail_view.proofs.values.write_part_values.Goals as goal

pub put_value-requires : goal.put_value-requires
put_value-requires c =
    rw (sym c.part-item.is) at (placed_at _ c.args.parts.now c.loop-part.part-index c.part-item.result (omega arith) c.requires)

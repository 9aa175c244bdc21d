use Rattle.std.proofs.Common.{sym, subst}
use Rattle.mail_records.specs.Tables.{IsTable}
use Rattle.mail_records.proofs.Tables.{IsTable-without}
use Rattle.mail_records.proofs.table.Table.take_out.Goals as goal

pub invariant_of-self : goal.invariant_of-self
invariant_of-self g c =
    let number = g.R.Record.number in
    subst (λ zs. IsTable number zs) (sym c.take_out.ensures.items) (IsTable-without number c.args.number c.self.inside.rows.items c.self.invariant)

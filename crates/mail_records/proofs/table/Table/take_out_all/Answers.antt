use Rattle.std.proofs.Common.{sym, subst}
use Rattle.mail_records.specs.Tables.{IsTable}
use Rattle.mail_records.proofs.WithoutAll.{IsTable-without_all}
use Rattle.mail_records.proofs.table.Table.take_out_all.Goals as goal

pub invariant_of-self : goal.invariant_of-self
invariant_of-self g c =
    let number = g.R.Record.number in
    subst (λ zs. IsTable number zs) (sym c.take_out_all.ensures.items) (IsTable-without_all number c.args.numbers.now c.self.inside.rows.items c.self.invariant)

use Rattle.std.proofs.Common.{sym, subst}
use Rattle.mail_records.specs.Tables.{IsTable}
use Rattle.mail_records.proofs.Tables.{IsTable-put}
use Rattle.mail_records.proofs.table.Table.put_ready.Goals as goal

pub invariant_of-self : goal.invariant_of-self
invariant_of-self g c =
    let number = g.R.Record.number in
    subst (λ zs. IsTable number zs) (sym c.put_ready.ensures.items) (IsTable-put number c.args.item c.self.inside.rows.items c.self.invariant)

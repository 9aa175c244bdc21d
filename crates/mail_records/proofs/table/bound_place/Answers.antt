use Rattle.std.proofs.Common.{arith}
use Rattle.mail_records.proofs.Searches.{from_number}
use Rattle.mail_records.proofs.table.bound_place.Goals as goal

pub returns-then-number-rows : goal.returns-then-number-rows
returns-then-number-rows g c =
    let lt = c.if-number-rows.true in from_number g.R.Record.number c.args.number c.args.rows.now c.requires (omega arith)

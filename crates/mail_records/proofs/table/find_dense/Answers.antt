use Rattle.std.proofs.Common.{sym, ◌∙◌, arith}
use Rattle.mail_records.proofs.Searches.{lookup_at}
use Rattle.mail_records.proofs.table.find_dense.Goals as goal

pub returns-then-number : goal.returns-then-number
returns-then-number g c =
    let out = c.if-place-rows.false in
    lookup_at g.R.Record.number c.args.number c.args.rows.now _ c.index-rows-place.result c.requires (omega arith) c.index-rows-place.is (sym c.number.ensures ∙ c.if-number.true)

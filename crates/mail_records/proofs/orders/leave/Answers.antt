use Rattle.std.proofs.Common.{◌≡◌, None, sym, ap, ◌∙◌}
use Rattle.mail_records.specs.Tables.{lookup, put, without}
use Rattle.mail_records.proofs.KeyTables.{same_tables, lookups_absent, lookups_put, lookup_number}
use Rattle.mail_records.proofs.orders.leave.Goals as goal

pub leave_for-requires-clause-number : goal.leave_for-requires-clause-number
leave_for-requires-clause-number g c =
    let number = g.R.Record.number in
    lookup_number number (number c.args.item.now) c.args.table.now.rows c.in-Some.old.now (ap (λ n. lookup number n c.args.table.now.rows) (sym c.number.ensures) ∙ c.in-Some.ensures)

pub returns-in-None-clause-exact : goal.returns-in-None-clause-exact
returns-in-None-clause-exact g c =
    let e = g.E.Entry in
    let law = g.met.E.Entry in
    let number = g.R.Record.number in
    let rows = c.args.table.now.rows in
    let es = c.args.entries.now.items in
    let item = c.args.item.now in
    let none : lookup number (number item) rows ≡ None = ap (λ n. lookup number n rows) (sym c.number.ensures) ∙ c.in-None.ensures in
    same_tables number e.owner e.key e.keys law.key_number law.keys_number rows (without number (number item) (put number item rows)) es
    (λ m. lookups_absent number (number item) rows none m ∙ sym (lookups_put number item rows m)) c.requires.exact

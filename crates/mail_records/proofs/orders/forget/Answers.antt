use Rattle.std.proofs.Common.{refl, ap, ◌∙◌}
use Rattle.mail_records.specs.Tables.{lookup, without}
use Rattle.mail_records.proofs.KeyTables.{left, same_tables, lookups_absent, lookup_number}
use Rattle.mail_records.proofs.orders.forget.Goals as goal

pub drop_entries-requires-clause-there : goal.drop_entries-requires-clause-there
drop_entries-requires-clause-there g c =
    let number = g.R.Record.number in
    let rows = c.args.table.now.rows in
    ap (λ n. lookup number n rows) (lookup_number number c.args.number rows c.in-Some.row.now c.in-Some.ensures) ∙ c.in-Some.ensures

pub returns-in-None-clause-exact : goal.returns-in-None-clause-exact
returns-in-None-clause-exact g c =
    let e = g.E.Entry in
    let law = g.met.E.Entry in
    let number = g.R.Record.number in
    let rows = c.args.table.now.rows in
    let es = c.args.entries.now.items in
    same_tables number e.owner e.key e.keys law.key_number law.keys_number rows (without number c.args.number rows) es
    (lookups_absent number c.args.number rows c.in-None.ensures) c.requires.exact

pub returns-in-Some-clause-exact : goal.returns-in-Some-clause-exact
returns-in-Some-clause-exact g c =
    let e = g.E.Entry in
    let law = g.met.E.Entry in
    let number = g.R.Record.number in
    let rows = c.args.table.now.rows in
    let es = c.args.entries.now.items in
    left number e.owner e.key e.keys law.key_number law.keys_number c.args.number rows (without number c.args.number rows) es c.drop_entries.new.entries.items c.in-Some.row.now
    c.in-Some.ensures (lookup_number number c.args.number rows c.in-Some.row.now c.in-Some.ensures) (λ m. refl) c.requires.exact c.drop_entries.ensures.keys

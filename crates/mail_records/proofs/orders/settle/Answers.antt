use Rattle.std.proofs.Common.{sym, ap, ◌∙◌, subst}
use Rattle.mail_records.specs.Tables.{lookup, without}
use Rattle.mail_records.specs.Orders.{AreKeys, KeysRise, any_key, keys_of}
use Rattle.mail_records.specs.OrderSteps.{rows_besides}
use Rattle.mail_records.proofs.KeyTables.{settled, unmoved, same_tables, lookups_absent, lookup_number}
use Rattle.mail_records.proofs.orders.settle.Goals as goal

pub put_entries-requires-clause-rise : goal.put_entries-requires-clause-rise
put_entries-requires-clause-rise g c =
    let e = g.E.Entry in
    let law = g.met.E.Entry in
    let number = g.R.Record.number in
    let rows = c.args.table.now.rows in
    let es = c.args.entries.now.items in
    let moved : AreKeys any_key number e.keys (without number c.args.number rows) (keys_of number e.owner e.key (without number c.args.number rows) es) =
    subst (λ b. AreKeys any_key number e.keys (rows_besides b number c.args.number rows) (keys_of number e.owner e.key (rows_besides b number c.args.number rows) es)) c.if-not-moved.false c.requires.exact in
    subst KeysRise (unmoved number e.owner e.key e.keys law.key_number law.keys_number c.args.number rows es moved) moved.rise

pub put_entries-requires-clause-there : goal.put_entries-requires-clause-there
put_entries-requires-clause-there g c =
    let number = g.R.Record.number in
    let rows = c.args.table.now.rows in
    ap (λ n. lookup number n rows) (lookup_number number c.args.number rows c.in-Some.row.now c.in-Some.ensures) ∙ c.in-Some.ensures

pub returns-in-None-clause-exact : goal.returns-in-None-clause-exact
returns-in-None-clause-exact g c =
    let e = g.E.Entry in
    let law = g.met.E.Entry in
    let number = g.R.Record.number in
    let rows = c.args.table.now.rows in
    let es = c.args.entries.now.items in
    let moved : AreKeys any_key number e.keys (without number c.args.number rows) (keys_of number e.owner e.key (without number c.args.number rows) es) =
    subst (λ b. AreKeys any_key number e.keys (rows_besides b number c.args.number rows) (keys_of number e.owner e.key (rows_besides b number c.args.number rows) es)) c.if-not-moved.false c.requires.exact in
    same_tables number e.owner e.key e.keys law.key_number law.keys_number (without number c.args.number rows) rows es
    (λ m. sym (lookups_absent number c.args.number rows c.in-None.ensures m)) moved

pub returns-in-Some-clause-exact : goal.returns-in-Some-clause-exact
returns-in-Some-clause-exact g c =
    let e = g.E.Entry in
    let law = g.met.E.Entry in
    let number = g.R.Record.number in
    let rows = c.args.table.now.rows in
    let es = c.args.entries.now.items in
    let moved : AreKeys any_key number e.keys (without number c.args.number rows) (keys_of number e.owner e.key (without number c.args.number rows) es) =
    subst (λ b. AreKeys any_key number e.keys (rows_besides b number c.args.number rows) (keys_of number e.owner e.key (rows_besides b number c.args.number rows) es)) c.if-not-moved.false c.requires.exact in
    settled number e.owner e.key e.keys law.key_number law.keys_number c.args.number rows es c.put_entries.new.entries.items c.in-Some.row.now
    c.in-Some.ensures (lookup_number number c.args.number rows c.in-Some.row.now c.in-Some.ensures) moved c.put_entries.ensures.keys

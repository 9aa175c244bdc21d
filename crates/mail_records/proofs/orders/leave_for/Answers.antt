use Rattle.mail_records.specs.Tables.{put, without}
use Rattle.mail_records.proofs.KeyTables.{kept, left, lookups_put}
use Rattle.mail_records.proofs.orders.leave_for.Goals as goal

pub returns-then-has_same_keys-clause-exact : goal.returns-then-has_same_keys-clause-exact
returns-then-has_same_keys-clause-exact g c =
    let e = g.E.Entry in
    let law = g.met.E.Entry in
    let number = g.R.Record.number in
    let rows = c.args.table.now.rows in
    let es = c.args.entries.now.items in
    let same = c.if-has_same_keys.true in
    kept number e.owner e.key e.keys law.key_number law.keys_number rows es c.args.old.now c.args.item.now c.requires.there (c.has_same_keys.ensures.keys same)
    (λ x. c.has_same_keys.ensures.key x same) c.requires.exact

pub returns-clause-exact : goal.returns-clause-exact
returns-clause-exact g c =
    let e = g.E.Entry in
    let law = g.met.E.Entry in
    let number = g.R.Record.number in
    let rows = c.args.table.now.rows in
    let es = c.args.entries.now.items in
    let item = c.args.item.now in
    left number e.owner e.key e.keys law.key_number law.keys_number (number item) rows (without number (number item) (put number item rows)) es c.drop_entries.new.entries.items c.args.old.now
    c.requires.there c.requires.number (lookups_put number item rows) c.requires.exact c.drop_entries.ensures.keys

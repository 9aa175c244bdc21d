use Rattle.std.proofs.Common.{◌≡◌, ◌<◌, ◌+◌, Some, drop, length, get_or, sym, ap, ◌∙◌, subst, arith}
use Rattle.mail_records.specs.Tables.{lookup}
use Rattle.mail_records.specs.Orders.{KeysRise, key_cmp, key_of, keys_of}
use Rattle.mail_records.specs.OrderSteps.{take_all_out, take_out}
use Rattle.mail_records.proofs.Rising.{rise-take_out}
use Rattle.mail_records.proofs.KeyOrder.{key_total}
use Rattle.mail_records.proofs.KeyTables.{out_step}
use Rattle.mail_records.proofs.orders.drop_entries.Goals as goal

pub loop-index-preserved : goal.loop-index-preserved
loop-index-preserved g c =
    let e = g.E.Entry in
    let number = g.R.Record.number in
    let rows = c.args.table.now.rows in
    let ks = e.keys c.args.row.now in
    let i = c.loop-index.index in
    let entry = c.entry_of-entry.result in
    let xs = keys_of number e.owner e.key rows c.loop-index.entries.items in
    let k = key_of number e.owner e.key rows entry in
    let found : lookup number (e.owner entry) rows ≡ Some c.args.row.now =
    ap (λ m. lookup number m rows) c.entry_of-entry.ensures.owner ∙ c.requires.there in
    let is : k ≡ get_or ks i k = ap (λ o. e.key o entry) found ∙ c.entry_of-entry.ensures.key k in
    let lt : i < length ks = omega (arith, c.loop-index-test.true, c.count-index-end.ensures) in
    let made : keys_of number e.owner e.key rows c.drop_entry.new.entries.items ≡ take_out key_cmp k xs = c.drop_entry.ensures.keys ∙ ap (λ z. take_out key_cmp z xs) c.key_in.ensures in
    let more = c.drop_entry.ensures.len in
    let before = c.loop-index.invariant.len in
    record {
      rise = subst KeysRise (sym made) (rise-take_out key_total k xs c.loop-index.invariant.rise);
      rest = ap (take_all_out key_cmp (drop (i + 1) ks)) made ∙ (out_step key_cmp ks i k xs lt is ∙ c.loop-index.invariant.rest);
      len = omega arith;
      capacity = c.drop_entry.ensures.capacity ∙ c.loop-index.invariant.capacity;
    }

use Rattle.std.proofs.Common.{◌≡◌, ◌<◌, ◌+◌, Some, drop, length, get_or, sym, ap, ◌∙◌, subst, arith}
use Rattle.mail_records.specs.Tables.{lookup}
use Rattle.mail_records.specs.Orders.{KeysRise, key_cmp, key_of, keys_of}
use Rattle.mail_records.specs.OrderSteps.{put_all_in, put_in}
use Rattle.mail_records.proofs.Rising.{rise-put}
use Rattle.mail_records.proofs.KeyOrder.{key_total}
use Rattle.mail_records.proofs.KeyTables.{put_step}
use Rattle.mail_records.proofs.orders.put_entries.Goals as goal

pub loop-index-preserved : goal.loop-index-preserved
loop-index-preserved g c =
    let e = g.E.Entry in
    let number = g.R.Record.number in
    let rows = c.args.table.now.rows in
    let ks = e.keys c.args.row.now in
    let i = c.loop-index.index in
    let entry = c.entry_of.result in
    let xs = keys_of number e.owner e.key rows c.loop-index.entries.items in
    let k = key_of number e.owner e.key rows entry in
    let found : lookup number (e.owner entry) rows ≡ Some c.args.row.now =
    ap (λ m. lookup number m rows) c.entry_of.ensures.owner ∙ c.requires.there in
    let is : k ≡ get_or ks i k = ap (λ o. e.key o entry) found ∙ c.entry_of.ensures.key k in
    let lt : i < length ks = omega (arith, c.loop-index-test.true, c.count-index-end.ensures) in
    let made : keys_of number e.owner e.key rows c.put_entry.new.entries.items ≡ put_in key_cmp k xs = c.put_entry.ensures.keys in
    let more = c.put_entry.ensures.len in
    let before = c.loop-index.invariant.len in
    record {
      rise = subst KeysRise (sym made) (rise-put key_total k xs c.loop-index.invariant.rise);
      rest = ap (put_all_in key_cmp (drop (i + 1) ks)) made ∙ (put_step key_cmp ks i k xs lt is ∙ c.loop-index.invariant.rest);
      len = omega arith;
      capacity = c.put_entry.ensures.capacity ∙ c.loop-index.invariant.capacity;
    }

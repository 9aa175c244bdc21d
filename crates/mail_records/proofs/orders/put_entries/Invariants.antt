use Rattle.std.proofs.Common.{◌≡◌, ◌+◌, ◌≤◌, drop, vec_len, vec_capacity}
use Rattle.mail_records.specs.Orders.{KeysRise, key_cmp, keys_of}
use Rattle.mail_records.specs.OrderSteps.{put_all_in}
use Rattle.mail_records.proofs.orders.put_entries.Given as goal

abbrev pub invariant-loop-index : goal.invariant-loop-index
invariant-loop-index g l = record {
  rise : KeysRise (keys_of g.R.Record.number g.E.Entry.owner g.E.Entry.key l.table.rows l.entries.items);
  rest : put_all_in key_cmp (drop l.index (g.E.Entry.keys l.row)) (keys_of g.R.Record.number g.E.Entry.owner g.E.Entry.key l.table.rows l.entries.items)
      ≡ put_all_in key_cmp (g.E.Entry.keys l.row) (keys_of g.R.Record.number g.E.Entry.owner g.E.Entry.key l.table.rows l.fn.entries.items);
  len : vec_len l.entries ≤ vec_len l.fn.entries + l.index;
  capacity : vec_capacity l.entries ≡ vec_capacity l.fn.entries;
}

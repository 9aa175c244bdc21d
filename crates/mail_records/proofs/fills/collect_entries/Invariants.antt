use Rattle.std.proofs.Common.{◌≡◌, take}
use Rattle.std.specs.List.{flat_map}
use Rattle.mail_records.specs.Orders.{keys_of}
use Rattle.mail_records.proofs.fills.collect_entries.Given as goal

abbrev pub invariant-loop-row : goal.invariant-loop-row
invariant-loop-row g l =
    keys_of g.R.Record.number g.E.Entry.owner g.E.Entry.key l.rows l.entries.items ≡ flat_map g.E.Entry.keys (take l.row-index l.rows)

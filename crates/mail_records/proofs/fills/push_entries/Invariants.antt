use Rattle.std.proofs.Common.{◌≡◌, ◌++◌, List, Some, take}
use Rattle.mail_records.specs.Orders.{keys_of}
use Rattle.mail_records.specs.Tables.{lookup}
use Rattle.mail_records.proofs.fills.push_entries.Given as goal

abbrev pub invariant-loop-index : goal.invariant-loop-index
invariant-loop-index g l =
    (rows : List g.row.R.Denot) → lookup g.R.Record.number (g.R.Record.number l.row) rows ≡ Some l.row
    → keys_of g.R.Record.number g.E.Entry.owner g.E.Entry.key rows l.entries.items
    ≡ keys_of g.R.Record.number g.E.Entry.owner g.E.Entry.key rows l.fn.entries.items ++ take l.index (g.E.Entry.keys l.row)

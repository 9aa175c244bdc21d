use Rattle.std.proofs.Common.{◌≡◌, take}
use Rattle.mail_records.proofs.table.collect_row_copies.Given as goal

abbrev pub invariant-loop-row : goal.invariant-loop-row
invariant-loop-row g l = l.all.items ≡ take l.row-index l.rows

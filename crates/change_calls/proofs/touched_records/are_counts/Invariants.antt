use Rattle.std.proofs.Common.{◌≡◌}
use Rattle.change_calls.specs.TouchedRecords.{are_counts}
use Rattle.change_calls.proofs.touched_records.are_counts.Given as goal

abbrev pub invariant-loop-mark : goal.invariant-loop-mark
invariant-loop-mark l = are_counts l.mark-iterator ≡ are_counts l.marks.entries

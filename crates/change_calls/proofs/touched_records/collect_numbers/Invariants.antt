use Rattle.std.proofs.Common.{◌≡◌, ◌++◌}
use Rattle.change_calls.specs.TouchedRecords.{numbers_marked}
use Rattle.change_calls.proofs.touched_records.collect_numbers.Given as goal

abbrev pub invariant-loop-number : goal.invariant-loop-number
invariant-loop-number l = l.numbers.items ++ numbers_marked l.before l.after l.number-iterator ≡ numbers_marked l.before l.after l.marks.entries

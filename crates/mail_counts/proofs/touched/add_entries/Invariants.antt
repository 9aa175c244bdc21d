use Rattle.std.proofs.Common.{◌≡◌, ◌++◌, drop, map}
use Rattle.mail_records.specs.Orders.{threaded_owner}
use Rattle.mail_counts.proofs.touched.add_entries.Given as goal

abbrev pub invariant-loop-entry : goal.invariant-loop-entry
invariant-loop-entry l = l.numbers.items ++ map threaded_owner (drop l.entry-index l.entries) ≡ l.fn.numbers.items ++ map threaded_owner l.entries

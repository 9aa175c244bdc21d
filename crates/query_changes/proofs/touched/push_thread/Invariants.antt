use Rattle.std.proofs.Common.{◌≡◌, ◌++◌, drop, map}
use Rattle.mail_records.specs.Orders.{threaded_owner}
use Rattle.query_changes.proofs.touched.push_thread.Given as goal

abbrev pub invariant-loop-entry : goal.invariant-loop-entry
invariant-loop-entry l = l.numbers.items ++ map threaded_owner (drop l.entry-index l.entries) ≡ l.initial.numbers.items ++ map threaded_owner l.entries

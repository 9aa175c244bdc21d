use Rattle.std.proofs.Common.{◌≡◌, ◌++◌, drop}
use Rattle.mail_counts.specs.Touched.{threads_named}
use Rattle.mail_counts.proofs.touched.collect_named_threads.Given as goal

abbrev pub invariant-loop-edit : goal.invariant-loop-edit
invariant-loop-edit l = l.threads.items ++ threads_named (drop l.edit-index l.edits) ≡ threads_named l.edits

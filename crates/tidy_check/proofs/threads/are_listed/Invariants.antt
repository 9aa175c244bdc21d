use Rattle.std.proofs.Common.{◌≡◌, drop}
use Rattle.std.specs.List.{list_all}
use Rattle.tidy_check.specs.Checks.{is_listed}
use Rattle.tidy_check.proofs.threads.are_listed.Given as goal

abbrev pub invariant-loop-thread : goal.invariant-loop-thread
invariant-loop-thread l = list_all (is_listed l.content.content) (drop l.thread-index l.threads) ≡ list_all (is_listed l.content.content) l.threads

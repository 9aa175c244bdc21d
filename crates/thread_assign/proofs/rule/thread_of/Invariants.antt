use Rattle.std.proofs.Common.{◌≡◌, drop}
use Rattle.thread_assign.specs.Threads.{joined_thread}
use Rattle.thread_assign.proofs.rule.thread_of.Given as goal

-- the emails from here on decide
abbrev pub invariant-loop-email : goal.invariant-loop-email
invariant-loop-email l = joined_thread (drop l.email-index l.emails) l.summary ≡ joined_thread l.emails l.summary

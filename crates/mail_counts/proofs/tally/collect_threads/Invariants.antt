use Rattle.std.proofs.Common.{◌≡◌, ◌++◌, drop, map}
use Rattle.mail_counts.specs.Counts.{email_thread}
use Rattle.mail_counts.proofs.tally.collect_threads.Given as goal

abbrev pub invariant-loop-email : goal.invariant-loop-email
invariant-loop-email l = l.threads.items ++ map email_thread (map (λ r. r.now) (drop l.email-index l.emails)) ≡ map email_thread (map (λ r. r.now) l.emails)

use Rattle.std.proofs.Common.{◌≡◌, ◌++◌, drop, map}
use Rattle.mail_counts.specs.Touched.{emails_of}
use Rattle.mail_counts.proofs.tally.of_threads.Given as goal

abbrev pub invariant-loop-email : goal.invariant-loop-email
invariant-loop-email l = map (λ r. r.now) l.of_these.items ++ emails_of l.threads (map (λ r. r.now) (drop l.email-index l.emails)) ≡ emails_of l.threads (map (λ r. r.now) l.emails)

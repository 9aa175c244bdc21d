use Rattle.std.proofs.Common.{◌≡◌, ◌++◌, drop, map}
use Rattle.mail_counts.specs.Overlay.{emails_among}
use Rattle.mail_counts.proofs.following.collect_emails_of_threads.Given as goal

abbrev pub invariant-loop-number : goal.invariant-loop-number
invariant-loop-number l = map (λ r. r.now) l.emails.items ++ emails_among l.threads l.content.emails (drop l.number-index l.numbers) ≡ emails_among l.threads l.content.emails l.numbers

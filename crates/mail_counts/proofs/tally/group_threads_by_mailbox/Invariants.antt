use Rattle.std.proofs.Common.{◌≡◌, ◌++◌, drop, map}
use Rattle.mail_counts.specs.Counts.{email_thread}
use Rattle.mail_counts.specs.Members.{mailbox_members}
use Rattle.mail_counts.proofs.tally.group_threads_by_mailbox.Given as goal

abbrev pub invariant-loop-email : goal.invariant-loop-email
invariant-loop-email l = l.members.items ++ mailbox_members email_thread (map (λ r. r.now) (drop l.email-index l.emails)) ≡ mailbox_members email_thread (map (λ r. r.now) l.emails)

use Rattle.std.proofs.Common.{◌≡◌, ◌++◌, drop, map}
use Rattle.mail_counts.specs.Members.{thread_members}
use Rattle.mail_counts.proofs.following.collect_thread_members.Given as goal

abbrev pub invariant-loop-email : goal.invariant-loop-email
invariant-loop-email l = l.members.items ++ thread_members (map (λ r. r.now) (drop l.email-index l.emails)) ≡ thread_members (map (λ r. r.now) l.emails)

use Rattle.std.proofs.Common.{◌≡◌, ◌++◌, drop, filter, map}
use Rattle.mail_counts.specs.Counts.{is_unread}
use Rattle.mail_counts.proofs.tally.collect_unread.Given as goal

abbrev pub invariant-loop-email : goal.invariant-loop-email
invariant-loop-email l = map (λ r. r.now) l.unread.items ++ filter is_unread (map (λ r. r.now) (drop l.email-index l.emails)) ≡ filter is_unread (map (λ r. r.now) l.emails)

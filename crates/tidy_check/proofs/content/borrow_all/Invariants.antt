use Rattle.std.proofs.Common.{◌≡◌, ◌++◌, drop, map}
use Rattle.tidy_check.proofs.content.borrow_all.Given as goal

abbrev pub invariant-loop-email : goal.invariant-loop-email
invariant-loop-email l = map (λ r. r.now) l.borrowed.items ++ drop l.email-index l.emails ≡ l.emails

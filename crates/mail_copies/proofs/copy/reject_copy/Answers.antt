use Rattle.std.proofs.Common.{ℕ}
use Rattle.mail_copies.proofs.copy.reject_copy.Goals as goal

pub returns-clause-numbers : goal.returns-clause-numbers
returns-clause-numbers c =
    λ (n : ℕ) h.
    record { numbers = c.in_ok-reject_email.ensures.numbers n h.numbers; counted = c.in_ok-reject_email.ensures.counted h.counted }

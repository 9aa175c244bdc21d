use Rattle.std.proofs.Common.{◌≡◌, drop, ℕ}
use Rattle.std.specs.List.{list_any}
use Rattle.std.specs.Prelude.{◌==◌}
use Rattle.filter_terms.proofs.emails.is_other_than.Given as goal

abbrev pub invariant-loop-number : goal.invariant-loop-number
invariant-loop-number l = list_any (λ (m : ℕ). m == l.mailbox) (drop l.number-index l.numbers) ≡ list_any (λ (m : ℕ). m == l.mailbox) l.numbers

use Rattle.std.proofs.Common.{◌≡◌, drop, ℕ}
use Rattle.std.specs.List.{list_any}
use Rattle.std.specs.Prelude.{◌==◌}
use Rattle.filter_terms.proofs.emails.is_in.Given as goal

abbrev pub invariant-loop-own : goal.invariant-loop-own
invariant-loop-own l = list_any (λ (m : ℕ). m == l.mailbox) (drop l.own-index l.own-items) ≡ list_any (λ (m : ℕ). m == l.mailbox) l.own-items

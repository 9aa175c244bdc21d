use Rattle.std.proofs.Common.{◌≡◌, drop, ℕ, List}
use Rattle.std.specs.List.{list_any}
use Rattle.std.proofs.Common.{bytes_eq}
use Rattle.filter_terms.proofs.emails.has_keyword.Given as goal

abbrev pub invariant-loop-own : goal.invariant-loop-own
invariant-loop-own l = list_any (λ (y : List ℕ). bytes_eq y l.keyword) (drop l.own-index l.own-items) ≡ list_any (λ (y : List ℕ). bytes_eq y l.keyword) l.own-items

use Rattle.std.proofs.Common.{◌≡◌, drop}
use Rattle.std.specs.List.{list_any}
use Rattle.filter_terms.specs.Compiled.{is_other_than}
use Rattle.filter_terms.proofs.emails.is_in_other_than.Given as goal

abbrev pub invariant-loop-own : goal.invariant-loop-own
invariant-loop-own l = list_any (λ m. is_other_than l.numbers m) (drop l.own-index l.own-items) ≡ list_any (λ m. is_other_than l.numbers m) l.own-items

use Rattle.std.proofs.Common.{◌≡◌, drop}
use Rattle.std.specs.List.{list_any}
use Rattle.sort_terms.specs.Properties.{is_wide_property}
use Rattle.sort_terms.specs.declared.comparators.Comparator.{Comparator}
use Rattle.sort_terms.proofs.order.are_wide.Given as goal

abbrev pub invariant-loop-comparator : goal.invariant-loop-comparator
invariant-loop-comparator l = list_any (λ (c : Comparator). is_wide_property c.property) (drop l.comparator-index l.comparators) ≡ list_any (λ (c : Comparator). is_wide_property c.property) l.comparators

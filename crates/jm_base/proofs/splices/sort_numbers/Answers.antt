use Rattle.std.proofs.Common.{rules, eqb, sym, ap, ◌∙◌, List, ℕ}
use Rattle.std.proofs.lemmas.List.Sorted.{list_any-IsPermutation}
use Rattle.jm_base.specs.Splices.{has}
use Rattle.jm_base.proofs.splices.sort_numbers.Goals as goal

pub returns-clause-sorted : goal.returns-clause-sorted
returns-clause-sorted c = c.sort_unstable.ensures.sorted

pub returns-clause-same : goal.returns-clause-same
returns-clause-same c n =
    sym (list_any-IsPermutation (λ x. eqb x n) c.extend_from_slice.new.self.items c.sort_unstable.new.self.items c.sort_unstable.ensures.permutation)
    ∙ ap (λ (zs : List ℕ). has zs n) (search rules)

use Rattle.std.proofs.Common.{◌∙◌, ap, eqb, subst, sym, ℕ, List}
use Rattle.std.specs.List.Sorted.{IsStrictlyIncreasing}
use Rattle.std.proofs.lemmas.List.Filters.{dedup_is}
use Rattle.std.proofs.lemmas.Map.Keys.{IsStrictlyIncreasing-dedup}
use Rattle.jm_base.specs.Splices.{has}
use Rattle.jm_base.proofs.Ordered.{any-dedup}
use Rattle.jm_base.proofs.numbers.put_in_order.Goals as goal

pub returns-clause-rise : goal.returns-clause-rise
returns-clause-rise c =
    let is = dedup_is eqb c.sort_unstable.new.self.items c.dedup.new.self.items c.dedup.ensures.filtered in
    subst (λ (zs : List ℕ). IsStrictlyIncreasing zs) (sym is) (IsStrictlyIncreasing-dedup c.sort_unstable.new.self.items c.sort_unstable.ensures.sorted)

pub returns-clause-same : goal.returns-clause-same
returns-clause-same c n =
    let is = dedup_is eqb c.sort_unstable.new.self.items c.dedup.new.self.items c.dedup.ensures.filtered in
    ap (λ (zs : List ℕ). has zs n) is ∙ any-dedup c.args.numbers.now.items c.sort_unstable.new.self.items c.sort_unstable.ensures.permutation n

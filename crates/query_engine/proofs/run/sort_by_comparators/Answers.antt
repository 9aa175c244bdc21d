use Rattle.std.proofs.Common.{rules, is_lt}
use Rattle.std.proofs.lemmas.Fn.{always_returns_same}
use Rattle.std.proofs.lemmas.List.Sorted.{ranks_by}
use Rattle.sort_terms.specs.Orders.{numbers_cmp}
use Rattle.sort_terms.proofs.Total.{numbers_total}
use Rattle.query_engine.proofs.run.sort_by_comparators.Goals as goal

pub returns-clause-sorted : goal.returns-clause-sorted
returns-clause-sorted c =
    let R = numbers_cmp c.args.order.now.kind c.args.order.now.tree c.args.content.now.content in
    c.sort_unstable_by.ensures.sorted (λ x y. is_lt (R x y)) (ranks_by (numbers_total c.args.order.now.kind c.args.order.now.tree c.args.content.now.content) (λ x. x))
    (always_returns_same _ _ _ (λ a s h k. search rules))

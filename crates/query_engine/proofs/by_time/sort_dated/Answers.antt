use Rattle.std.proofs.Common.{rules, is_lt}
use Rattle.std.proofs.lemmas.Fn.{always_returns_same}
use Rattle.std.proofs.lemmas.List.Sorted.{ranks_by}
use Rattle.query_engine.specs.Walks.{dated_cmp, dated_row}
use Rattle.query_engine.proofs.ByTime.{directed_total}
use Rattle.query_engine.proofs.by_time.sort_dated.Goals as goal

pub returns-clause-sorted : goal.returns-clause-sorted
returns-clause-sorted c =
    c.sort_unstable_by.ensures.sorted (λ x y. is_lt (dated_cmp c.args.ascending x y)) (ranks_by (directed_total c.args.ascending) dated_row) (always_returns_same _ _ _ (λ a s h k. search rules))

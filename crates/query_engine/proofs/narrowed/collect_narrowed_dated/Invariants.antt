use Rattle.std.proofs.Common.{◌≡◌, ◌++◌, drop}
use Rattle.query_engine.specs.Walks.{kept_dated}
use Rattle.query_engine.proofs.narrowed.collect_narrowed_dated.Given as goal

abbrev pub invariant-loop-entry : goal.invariant-loop-entry
invariant-loop-entry g l =
    (l.index ≡ l.entry-index)
    × (l.all.items ++ kept_dated l.query l.content.content (g.T.Texts2.texts l.texts) (drop l.entry-index l.emails) ≡ kept_dated l.query l.content.content (g.T.Texts2.texts l.texts) l.emails)

use Rattle.std.proofs.Common.{◌≡◌, ◌++◌, drop}
use Rattle.query_engine.specs.Walks.{kept_dated}
use Rattle.query_engine.proofs.by_time.collect_each_dated.Given as goal

abbrev pub invariant-loop-email : goal.invariant-loop-email
invariant-loop-email g l =
    l.all.items ++ kept_dated l.query l.content.content (g.T.Texts2.texts l.texts) (drop l.email-index l.emails) ≡ kept_dated l.query l.content.content (g.T.Texts2.texts l.texts) l.emails

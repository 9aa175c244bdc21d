use Rattle.std.proofs.Common.{◌≡◌, ◌++◌, drop}
use Rattle.query_engine.specs.Walks.{kept_emails}
use Rattle.query_engine.proofs.narrowed.collect_narrowed_numbers.Given as goal

abbrev pub invariant-loop-entry : goal.invariant-loop-entry
invariant-loop-entry g l =
    (l.index ≡ l.entry-index)
    × (l.numbers.items ++ kept_emails l.query l.content.content (g.T.Texts2.texts l.texts) (drop l.entry-index l.emails) ≡ kept_emails l.query l.content.content (g.T.Texts2.texts l.texts) l.emails)

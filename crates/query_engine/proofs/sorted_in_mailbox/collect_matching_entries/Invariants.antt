use Rattle.std.proofs.Common.{◌≡◌, ◌++◌, drop, map}
use Rattle.query_engine.specs.Walks.{matching, placed_row}
use Rattle.query_engine.proofs.sorted_in_mailbox.collect_matching_entries.Given as goal

abbrev pub invariant-loop-entry : goal.invariant-loop-entry
invariant-loop-entry g l =
    l.numbers.items ++ matching l.query l.content.content (g.T.Texts2.texts l.texts) (map placed_row (drop l.entry-index l.entries)) ≡ matching l.query l.content.content (g.T.Texts2.texts l.texts) (map placed_row l.entries)

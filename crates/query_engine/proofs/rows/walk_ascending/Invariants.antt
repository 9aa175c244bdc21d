use Rattle.std.proofs.Common.{◌≡◌, ◌++◌, List, ℕ, drop, map}
use Rattle.query_engine.specs.Walks.{goes_on, matching}
use Rattle.query_engine.proofs.rows.walk_ascending.Given as goal

abbrev pub invariant-loop-entry : goal.invariant-loop-entry
invariant-loop-entry g l =
    (rest : List ℕ) → goes_on l.content.content l.page (matching l.query l.content.content (g.T.Texts2.texts l.texts) (map g.E.Candidate.timed (drop l.entry-index l.entries)) ++ rest) ≡ goes_on l.content.content l.fn.page (matching l.query l.content.content (g.T.Texts2.texts l.texts) (map g.E.Candidate.timed l.entries) ++ rest)

use Rattle.std.proofs.Common.{◌≡◌, ◌++◌, List, ℕ, map, length}
use Rattle.query_engine.specs.Walks.{RowsAscend, descending, goes_on, matching}
use Rattle.query_engine.proofs.rows.walk_descending.Given as goal

abbrev pub invariant-loop-last : goal.invariant-loop-last
invariant-loop-last g l =
    RowsAscend (map g.E.Candidate.timed l.left)
    × ((rest : List ℕ) → goes_on l.content.content l.page (matching l.query l.content.content (g.T.Texts2.texts l.texts) (descending (map g.E.Candidate.timed l.left)) ++ rest) ≡ goes_on l.content.content l.fn.page (matching l.query l.content.content (g.T.Texts2.texts l.texts) (descending (map g.E.Candidate.timed l.entries)) ++ rest))

abbrev pub decreases-loop-last : goal.decreases-loop-last
decreases-loop-last g l = length l.left

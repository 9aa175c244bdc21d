use Rattle.std.proofs.Common.{◌≡◌, ◌++◌, List, ℕ, drop}
use Rattle.query_engine.specs.Walks.{goes_on}
use Rattle.query_engine.proofs.run.put_numbers.Given as goal

abbrev pub invariant-loop-number : goal.invariant-loop-number
invariant-loop-number l =
    (rest : List ℕ) → goes_on l.content.content l.page (drop l.number-index l.numbers ++ rest) ≡ goes_on l.content.content l.fn.page (l.numbers ++ rest)

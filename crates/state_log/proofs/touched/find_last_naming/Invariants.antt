use Rattle.std.proofs.Common.{◌≡◌, ◌<◌, ◌≤◌, ◌+◌, eqb, filter, length}
use Rattle.std.specs.List.{All}
use Rattle.state_log.specs.Logs.{ids_in}
use Rattle.state_log.specs.Positions.{last_or, number_at}
use Rattle.state_log.proofs.touched.find_last_naming.Given as goal

abbrev pub invariant-loop-last : goal.invariant-loop-last
invariant-loop-last l = record {
  inside : All (λ p. (l.floor < p) × (p ≤ l.floor + length l.notes)) l.left;
  rest : last_or (filter (λ p. eqb (number_at l.floor (ids_in l.notes) p) l.number) l.left) 0
      ≡ last_or (filter (λ p. eqb (number_at l.floor (ids_in l.notes) p) l.number) l.positions) 0;
}

abbrev pub decreases-loop-last : goal.decreases-loop-last
decreases-loop-last l = length l.left

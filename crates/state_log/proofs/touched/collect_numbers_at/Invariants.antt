use Rattle.std.proofs.Common.{◌≡◌, map, take}
use Rattle.state_log.specs.Logs.{ids_in}
use Rattle.state_log.specs.Positions.{number_at}
use Rattle.state_log.proofs.touched.collect_numbers_at.Given as goal

abbrev pub invariant-loop-position : goal.invariant-loop-position
invariant-loop-position l = l.numbers.items ≡ map (number_at l.floor (ids_in l.notes)) (take l.position-index l.positions)

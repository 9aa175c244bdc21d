use Rattle.state_log.specs.Logs.{ids_in}
use Rattle.state_log.proofs.Placed.{numbers-between, span-bounds}
use Rattle.state_log.proofs.laws.positions_name_numbers.Goals as goal

pub returns : goal.returns
returns c = record {
  noted = λ l kind from upto order within. span-bounds kind l from upto order within;
  numbers = λ l kind from upto. numbers-between kind l.floor (ids_in l.notes) from upto;
}

use Rattle.jm_json.proofs.Least.{least_is, none_left}
use Rattle.jm_json.proofs.laws.show_that_the_least_place_is_least.Goals as goal

pub returns-clause-least : goal.returns-clause-least
returns-clause-least c places place e = least_is places place e

pub returns-clause-none : goal.returns-clause-none
returns-clause-none c places e = none_left places e

use Rattle.query_changes.proofs.States.{states_decide}
use Rattle.query_changes.proofs.laws.lists_are_those_of_states.Goals as goal

pub returns : goal.returns
returns c = states_decide

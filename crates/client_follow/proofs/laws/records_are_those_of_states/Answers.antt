use Rattle.client_follow.proofs.Between.{records_are_one, states_decide}
use Rattle.client_follow.proofs.laws.records_are_those_of_states.Goals as goal

pub returns-clause-one : goal.returns-clause-one
returns-clause-one c = records_are_one

pub returns-clause-states : goal.returns-clause-states
returns-clause-states c = states_decide

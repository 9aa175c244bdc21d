use Rattle.mail_view.proofs.AtStates.{states_decide}
use Rattle.mail_view.proofs.laws.views_are_those_of_states.Goals as goal

pub returns : goal.returns
returns c = states_decide

use Rattle.client_follow.proofs.Answered.{lists_answered}
use Rattle.client_follow.proofs.laws.answers_load_lists.Goals as goal

pub returns : goal.returns
returns c = lists_answered

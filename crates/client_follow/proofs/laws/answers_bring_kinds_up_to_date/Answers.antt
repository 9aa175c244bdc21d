use Rattle.client_follow.proofs.Answered.{changes_answered, gets_answered}
use Rattle.client_follow.proofs.laws.answers_bring_kinds_up_to_date.Goals as goal

pub returns-clause-changes : goal.returns-clause-changes
returns-clause-changes c = changes_answered

pub returns-clause-gets : goal.returns-clause-gets
returns-clause-gets c = gets_answered

use Rattle.email_set.proofs.Answering.{as_sent, one_answered, one_planned}
use Rattle.email_set.proofs.laws.show_what_is_said_of_one_update.Goals as goal

pub returns-clause-planned : goal.returns-clause-planned
returns-clause-planned c = one_planned

pub returns-clause-answered : goal.returns-clause-answered
returns-clause-answered c = one_answered

pub returns-clause-reported : goal.returns-clause-reported
returns-clause-reported c = as_sent

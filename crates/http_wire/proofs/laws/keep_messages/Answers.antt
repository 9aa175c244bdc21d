use Rattle.http_wire.proofs.MessageStays.{due_stays, due_back}
use Rattle.http_wire.proofs.laws.keep_messages.Goals as goal

pub returns-clause-due : goal.returns-clause-due
returns-clause-due c = due_stays

pub returns-clause-not_due : goal.returns-clause-not_due
returns-clause-not_due c = due_back

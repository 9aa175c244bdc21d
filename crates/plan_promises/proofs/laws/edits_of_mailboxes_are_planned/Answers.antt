use Rattle.plan_promises.proofs.Planned.{planned_mailboxes}
use Rattle.plan_promises.proofs.laws.edits_of_mailboxes_are_planned.Goals as goal

pub returns : goal.returns
returns c = planned_mailboxes

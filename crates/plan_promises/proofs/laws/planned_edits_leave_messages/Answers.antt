use Rattle.plan_promises.proofs.Planned.{planned_small, planned_formed, planned_messages}
use Rattle.plan_promises.proofs.laws.planned_edits_leave_messages.Goals as goal

pub returns : goal.returns
returns c = record { small = planned_small; formed = planned_formed; messages = planned_messages }

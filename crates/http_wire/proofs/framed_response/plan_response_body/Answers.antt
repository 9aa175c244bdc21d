use Rattle.std.proofs.Common.{sym, ◌∙◌}
use Rattle.http_wire.proofs.ResponseFramed.{planned_body}
use Rattle.http_wire.proofs.framed_response.plan_response_body.Goals as goal

pub returns-clause-plan : goal.returns-clause-plan
returns-clause-plan c = planned_body c.args.said c.plan_body.result (sym c.is_not_said.ensures ∙ c.if-is_not_said.false) c.plan_body.ensures.plan

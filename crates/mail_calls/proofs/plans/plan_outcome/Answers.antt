use Rattle.jm_json.specs.Invocations.{call_of}
use Rattle.mail_calls.proofs.Returned.{planned_so}
use Rattle.mail_calls.proofs.plans.plan_outcome.Goals as goal

pub returns : goal.returns
returns c =
    planned_so c.plan_reply.result (call_of c.args.call.now) (call_of c.in_ok-response.response) c.args.returned c.in_ok-response.ensures c.plan_reply.ensures

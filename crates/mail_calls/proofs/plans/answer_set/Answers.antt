use Rattle.jm_json.specs.Invocations.{call_of}
use Rattle.mail_calls.proofs.Sets.{planned_set, refused_set}
use Rattle.mail_calls.proofs.plans.answer_set.Goals as goal

pub returns-in_ok-response-in-Ok : goal.returns-in_ok-response-in-Ok
returns-in_ok-response-in-Ok c =
    planned_set c.plan_with.result (call_of c.args.call.now) c.args.returned c.in-Ok.plan (call_of c.in_ok-response-in-Ok.response) c.in-Ok.is c.in_ok-response-in-Ok.ensures c.plan_with.ensures

pub returns-in-Err : goal.returns-in-Err
returns-in-Err c =
    refused_set c.answer_set_fault.result (call_of c.args.call.now) c.args.returned c.in-Err.fault c.in-Err.is c.answer_set_fault.ensures

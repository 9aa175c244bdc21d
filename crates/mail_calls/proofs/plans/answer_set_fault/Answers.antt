use Rattle.std.proofs.Common.{◌≡◌, ap, codes}
use Rattle.jm_json.specs.Invocations.{call_of}
use Rattle.mail_calls.specs.Plans.{unless_rejected}
use Rattle.mail_calls.proofs.Sets.{rejected_set}
use Rattle.mail_calls.proofs.plans.answer_set_fault.Goals as goal

pub returns-in-Invalid : goal.returns-in-Invalid
returns-in-Invalid c =
    rejected_set c.plan_error.result (call_of c.args.call.now) c.args.fault.now _ (codes "invalidArguments") c.in-Invalid.is (λ make o told. ap (unless_rejected (call_of c.args.call.now) make) told) c.plan_error.ensures

pub returns-in-TooLarge : goal.returns-in-TooLarge
returns-in-TooLarge c =
    rejected_set c.plan_error-in-TooLarge.result (call_of c.args.call.now) c.args.fault.now _ (codes "requestTooLarge") c.in-TooLarge.is (λ make o told. ap (unless_rejected (call_of c.args.call.now) make) told) c.plan_error-in-TooLarge.ensures

pub returns-in-StateMismatch : goal.returns-in-StateMismatch
returns-in-StateMismatch c =
    rejected_set c.plan_error-in-StateMismatch.result (call_of c.args.call.now) c.args.fault.now _ (codes "stateMismatch") c.in-StateMismatch.is (λ make o told. ap (unless_rejected (call_of c.args.call.now) make) told) c.plan_error-in-StateMismatch.ensures

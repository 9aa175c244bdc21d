use Rattle.jm_json.specs.Invocations.{call_of}
use Rattle.jm_json.specs.Json.{tree_of}
use Rattle.read_replies.specs.Plans.{queried}
use Rattle.mail_calls.proofs.Returned.{answered_so}
use Rattle.mail_calls.proofs.plans.plan_query.Goals as goal

pub returns : goal.returns
returns c =
    answered_so c.plan_outcome.result (call_of c.args.call.now) c.find_results-returned.result (queried c.args.account.now.history c.args.kind (tree_of c.args.call.now.args))
    c.find_results-returned.ensures.reply c.find_results-returned.ensures.fault c.plan_outcome.ensures

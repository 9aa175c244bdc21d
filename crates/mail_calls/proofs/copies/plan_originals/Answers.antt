use Rattle.std.proofs.Common.{◌≡◌, ◌∙◌}
use Rattle.jm_json.specs.Invocations.{call_of}
use Rattle.account_book.specs.declared.plans.Out.TheVariants as out
use Rattle.copy_calls.specs.Fetches.{fetch_rejection, fetched_in}
use Rattle.jm_json.specs.Json.{tree_of}
use Rattle.mail_calls.specs.Plans.{reading}
use Rattle.mail_calls.proofs.CopyPlans.{fetched, rejected}
use Rattle.mail_calls.proofs.copies.plan_originals.Goals as goal

pub returns-in-Ok : goal.returns-in-Ok
returns-in-Ok c =
    let h = c.args.account.now.history in
    let args = tree_of c.args.call.now.args in
    c.plan_reading.ensures ∙ fetched c.in-Ok.carried (fetched_in h args) (call_of c.args.call.now) (fetch_rejection h args) c.in-Ok.ensures.fetched

pub returns-in-Err : goal.returns-in-Err
returns-in-Err c =
    let h = c.args.account.now.history in
    let args = tree_of c.args.call.now.args in
    rejected c.answer_set_fault.result (call_of c.args.call.now) c.in-Err.fault (reading (out.Carried (fetched_in h args))) (fetch_rejection h args) c.in-Err.ensures.fault c.answer_set_fault.ensures

use Rattle.std.proofs.Common.{◌≡◌, ◌∙◌}
use Rattle.jm_json.specs.Invocations.{call_of}
use Rattle.jm_json.specs.Json.{tree_of}
use Rattle.account_book.specs.declared.plans.Out.TheVariants as out
use Rattle.copy_calls.specs.BlobCopies.{blob_rejection, blobs_fetched_in}
use Rattle.mail_calls.specs.Plans.{reading}
use Rattle.mail_calls.proofs.CopyPlans.{fetched, rejected}
use Rattle.mail_calls.proofs.copies.plan_blobs.Goals as goal

pub returns-in-Ok : goal.returns-in-Ok
returns-in-Ok c =
    let h = c.args.account.now.history in
    let args = tree_of c.args.call.now.args in
    c.plan_reading.ensures ∙ fetched c.in-Ok.carried (blobs_fetched_in h args) (call_of c.args.call.now) (blob_rejection args) c.in-Ok.ensures.fetched

pub returns-in-Err : goal.returns-in-Err
returns-in-Err c =
    let h = c.args.account.now.history in
    let args = tree_of c.args.call.now.args in
    rejected c.answer_set_fault.result (call_of c.args.call.now) c.in-Err.fault (reading (out.Carried (blobs_fetched_in h args))) (blob_rejection args) c.in-Err.ensures.fault c.answer_set_fault.ensures

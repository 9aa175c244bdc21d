use Rattle.std.proofs.Common.{◌≡◌}
use Rattle.jm_json.specs.Invocations.{call_of}
use Rattle.jm_json.specs.Json.{tree_of}
use Rattle.copy_calls.specs.BlobCopies.{blob_plan_in, blob_rejection}
use Rattle.copy_calls.specs.Views.{blob_plan_of}
use Rattle.mail_calls.specs.Plans.{blobs_planned}
use Rattle.mail_calls.proofs.CopyPlans.{blobs_copied, rejected}
use Rattle.mail_calls.proofs.copies.plan_blob_copies.Goals as goal

pub returns-in-Ok : goal.returns-in-Ok
returns-in-Ok c =
    let h = c.args.account.now.history in
    let args = tree_of c.args.call.now.args in
    blobs_copied c.answer_blob_copies.result (call_of c.args.call.now) (blob_plan_of c.in-Ok.plan) (blob_plan_in h args c.args.carried.now) (blob_rejection args) c.in-Ok.ensures.plan c.answer_blob_copies.ensures

pub returns-in-Err : goal.returns-in-Err
returns-in-Err c =
    let h = c.args.account.now.history in
    let args = tree_of c.args.call.now.args in
    rejected c.answer_set_fault.result (call_of c.args.call.now) c.in-Err.fault (blobs_planned (call_of c.args.call.now) (blob_plan_in h args c.args.carried.now)) (blob_rejection args) c.in-Err.ensures.fault c.answer_set_fault.ensures

use Rattle.std.proofs.Common.{◌≡◌, ◌∙◌, ap, ap₂, map, option_map, Option, List, ℕ}
use Rattle.jm_json.specs.Tree.{Tree}
use Rattle.mail_view.specs.Records.{first_mentions}
use Rattle.copy_calls.specs.BlobCopies.{BlobCopying, after_blobs, blob_ids_in, blob_plan, blobs_copied, delivered_for, no_blobs}
use Rattle.mail_copies.specs.Carried.{Delivery, deliveries}
use Rattle.mail_copies.specs.Views.{delivery_of}
use Rattle.mail_copies.specs.declared.carried.Delivery.{Delivery as TheDelivery}
use Rattle.copy_calls.proofs.blob_place.plan_blob_members.Goals as goal

pub returns-clause-plan : goal.returns-clause-plan
returns-clause-plan c =
    let blobs = c.args.blobs.now.blobs in
    let ms = c.args.members.now in
    let f : Option TheDelivery → Option Delivery = λ d. option_map delivery_of d in
    let copied : List (List ℕ) → List (Option Delivery) → BlobCopying = λ ids ds. after_blobs blobs (delivered_for ids ds) no_blobs (first_mentions ids) in
    let ids : List (List ℕ) = map (λ t. t.now) c.as_slice-3.result.now in
    let ds : List (Option Delivery) = map f c.as_slice-4.result.now in
    let is : copied ids ds ≡ blobs_copied blobs c.args.carried.now (blob_ids_in ms) =
    ap₂ copied (ap (map (λ t. t.now)) c.as_slice-3.ensures.value ∙ c.in_ok-ids.ensures)
    (ap (map f) c.as_slice-4.ensures.value
    ∙ (c.in_ok-deliveries.ensures ∙ ap₂ (λ (ts : List Tree) (bs : List (List ℕ)). deliveries ts bs) c.as_slice.ensures c.as_slice-2.ensures)) in
    (c.in_ok-check_blob_copy.ensures, c.in_ok-finish_blobs.ensures (copied ids ds) c.in_ok-planner.ensures ∙ ap (blob_plan ms) is)

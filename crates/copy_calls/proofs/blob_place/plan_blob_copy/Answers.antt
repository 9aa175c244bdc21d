use Rattle.std.proofs.Common.{◌≡◌, ◌++◌, None, List, ℕ, Result, Ok, Err, IfOk, sym, ap, subst}
use Rattle.jm_json.specs.Json.{tree_of}
use Rattle.jm_json.specs.Find.{as_object}
use Rattle.blob_store.specs.Blobs.{AreBlobsFew}
use Rattle.mail_records.specs.Histories.{blobs_of}
use Rattle.copy_calls.specs.BlobCopies.{BlobPlan, blob_plan_in, blob_rejection}
use Rattle.copy_calls.specs.Views.{blob_plan_of}
use Rattle.copy_calls.specs.declared.blob_place.BlobPlan.{BlobPlan as TheBlobPlan}
use Rattle.copy_calls.proofs.Blobs.{few_plan}
use Rattle.copy_calls.proofs.blob_place.plan_blob_copy.Goals as goal

ok_from : {T E : Type 0} (r : Result T E) (P S : T → Type 0) → ((x : T) → P x → S x) → IfOk r P → IfOk r S
ok_from (Ok x) P S f h = f x h
ok_from (Err e) P S f h = tt

pub returns-clause-few : goal.returns-clause-few
returns-clause-few c =
    let h = c.args.account.now.history in
    let blobs : List (List ℕ) = blobs_of h in
    let args = tree_of c.args.args.now in
    let carried = c.args.carried.now in
    ok_from c.place_over.result (λ (p : TheBlobPlan). (blob_rejection args ≡ None) × (blob_plan_of p ≡ blob_plan_in h args carried)) (λ (p : TheBlobPlan). AreBlobsFew (blobs ++ p.blobs))
    (λ p told.
    subst (λ (bs : List (List ℕ)). AreBlobsFew (blobs ++ bs)) (sym (ap (λ (q : BlobPlan). q.blobs) told.1)) (few_plan blobs carried (as_object args) c.place_over.ensures.few))
    c.place_over.ensures.plan

use Rattle.std.proofs.Common.{◌≡◌, ◌++◌, List, ℕ}
use Rattle.jm_base.specs.declared.identifiers.Kind.TheVariants.{Email as OfEmail}
use Rattle.jm_json.specs.Json.{tree_of}
use Rattle.blob_store.specs.Blobs.{AreBlobsFew}
use Rattle.mail_records.specs.Contents.{AreTables}
use Rattle.mail_records.specs.Histories.{blobs_of, content_of}
use Rattle.mail_counts.specs.CountsFlag.{AreCountsFlagsRight}
use Rattle.mail_counts.specs.Plans.{Ground, ground_of_history}
use Rattle.mail_counts.specs.Tidy.{IsTidy}
use Rattle.mail_counts.specs.declared.plan.SetFault.{SetFault}
use Rattle.mail_counts.specs.declared.plan.SetPlan.{SetPlan}
use Rattle.mail_summary.specs.Summaries.{summary}
use Rattle.set_parts.specs.Outcomes.{ExplainsSet, plan_of, planned}
use Rattle.set_parts.specs.Responses.{HasNewState}
use Rattle.set_parts.proofs.Parts.{if_ok, if_err}
use Rattle.plan_promises.specs.Planned.{IsPlanned}
use Rattle.mail_copies.specs.Plans.{place_in}
use Rattle.mail_copies.proofs.Promised.{promised}
use Rattle.mail_copies.proofs.place.plan_place.Goals as goal

pub returns : goal.returns
returns c =
    let h = c.args.account.now.history in
    let g : Ground = ground_of_history h in
    let blobs : List (List ℕ) = blobs_of h in
    let args = tree_of c.args.args.now in
    let carried = c.args.carried.now in
    let made = c.args.made.now in
    let moment = c.args.moment in
    let P : SetPlan → Type 0 = λ p. place_in h args carried made moment ≡ planned (plan_of p) in
    let Q : SetFault → Type 0 = λ e. ExplainsSet e (place_in h args carried made moment) in
    let told = λ (p : SetPlan) (is : P p). promised g blobs args carried made moment (plan_of p) is in
    let over = c.plan_over.ensures.outcome in
    record {
      outcome = if_ok c.plan_over.result P P Q (λ p is. is) over;
      fault = if_err c.plan_over.result P Q over;
      promises = if_ok c.plan_over.result P (λ p. IsTidy (content_of h) → IsPlanned summary (blobs ++ p.blobs) (content_of h) p.edits) Q (λ p is. (told p is).planned c.requires.moment) over;
      few = if_ok c.plan_over.result P (λ p. AreBlobsFew (blobs ++ p.blobs)) Q (λ p is. (told p is).few c.plan_over.ensures.few) over;
      flags = if_ok c.plan_over.result P (λ p. AreTables (content_of h) → AreCountsFlagsRight (content_of h) p.edits) Q (λ p is. (told p is).flags) over;
      new_state = if_ok c.plan_over.result P (λ p. HasNewState OfEmail g (tree_of p.reply) p.edits) Q (λ p is. (told p is).new_state) over;
    }

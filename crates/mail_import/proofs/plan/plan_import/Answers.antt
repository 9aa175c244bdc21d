use Rattle.std.proofs.Common.{◌≡◌}
use Rattle.jm_base.specs.declared.identifiers.Kind.TheVariants.{Email as OfEmail}
use Rattle.jm_json.specs.Json.{tree_of}
use Rattle.mail_records.specs.Contents.{AreTables}
use Rattle.mail_records.specs.Histories.{blobs_of, content_of}
use Rattle.mail_counts.specs.CountsFlag.{AreCountsFlagsRight}
use Rattle.mail_counts.specs.Plans.{Ground, ground_of_history}
use Rattle.mail_counts.specs.Tidy.{IsTidy}
use Rattle.mail_counts.specs.declared.plan.SetFault.{SetFault}
use Rattle.mail_counts.specs.declared.plan.SetPlan.{SetPlan}
use Rattle.mail_summary.specs.Summaries.{summary}
use Rattle.set_parts.specs.Outcomes.{ExplainsSet, plan_of, planned}
use Rattle.set_parts.specs.Responses.{HasNewState}
use Rattle.plan_promises.specs.Planned.{IsPlanned}
use Rattle.mail_import.specs.Plans.{import_in}
use Rattle.set_parts.proofs.Parts.{if_ok, if_err}
use Rattle.mail_import.proofs.Promising.{promised}
use Rattle.mail_import.proofs.plan.plan_import.Goals as goal

pub returns : goal.returns
returns c =
    let h = c.args.account.now.history in
    let g : Ground = ground_of_history h in
    let P : SetPlan → Type 0 = λ p. import_in h (tree_of c.args.args.now) c.args.made.now c.args.moment ≡ planned (plan_of p) in
    let Q : SetFault → Type 0 = λ e. ExplainsSet e (import_in h (tree_of c.args.args.now) c.args.made.now c.args.moment) in
    let told = λ (p : SetPlan) (is : P p). promised g (blobs_of h) (tree_of c.args.args.now) c.args.made.now c.args.moment (plan_of p) is in
    record {
      outcome = if_ok c.plan_over.result P P Q (λ p is. is) c.plan_over.ensures;
      fault = if_err c.plan_over.result P Q c.plan_over.ensures;
      promises = if_ok c.plan_over.result P (λ p. IsTidy (content_of h) → IsPlanned summary (blobs_of h) (content_of h) p.edits) Q (λ p is. (told p is).planned c.requires.moment) c.plan_over.ensures;
      flags = if_ok c.plan_over.result P (λ p. AreTables (content_of h) → AreCountsFlagsRight (content_of h) p.edits) Q (λ p is. (told p is).flags) c.plan_over.ensures;
      new_state = if_ok c.plan_over.result P (λ p. HasNewState OfEmail g (tree_of p.reply) p.edits) Q (λ p is. (told p is).new_state) c.plan_over.ensures;
    }

use Rattle.std.proofs.Common.{◌≡◌, ℕ, List}
use Rattle.jm_base.specs.declared.identifiers.Kind.TheVariants.{Email as OfEmail}
use Rattle.jm_json.specs.Json.{tree_of}
use Rattle.mail_records.specs.Contents.{AreTables}
use Rattle.mail_records.specs.declared.records.Summary.{Summary}
use Rattle.mail_counts.specs.CountsFlag.{AreCountsFlagsRight}
use Rattle.mail_counts.specs.Plans.{Ground}
use Rattle.mail_counts.specs.Tidy.{IsTidy}
use Rattle.mail_counts.specs.declared.plan.SetFault.{SetFault}
use Rattle.mail_counts.specs.declared.plan.SetPlan.{SetPlan}
use Rattle.plan_promises.specs.Planned.{IsPlanned}
use Rattle.set_parts.specs.Outcomes.{ExplainsSet, ground_of, plan_of, planned}
use Rattle.set_parts.specs.Responses.{HasNewState}
use Rattle.set_parts.proofs.Parts.{if_ok, if_err}
use Rattle.email_set.specs.Plans.{email_set_outcome}
use Rattle.email_set.proofs.Promising.{promised}
use Rattle.email_set.proofs.plan.plan_email_set.Goals as goal

pub returns : goal.returns
returns c =
    let content = c.args.content.now.content in
    let g : Ground = ground_of content c.args.log.now in
    let P : SetPlan → Type 0 = λ p. email_set_outcome g (tree_of c.args.args.now) c.args.made.now ≡ planned (plan_of p) in
    let Q : SetFault → Type 0 = λ e. ExplainsSet e (email_set_outcome g (tree_of c.args.args.now) c.args.made.now) in
    let told = λ (p : SetPlan) (h : P p). promised g (tree_of c.args.args.now) c.args.made.now (plan_of p) h in
    record {
      outcome = if_ok c.plan.result P P Q (λ p h. h) c.plan.ensures;
      fault = if_err c.plan.result P Q c.plan.ensures;
      promises = if_ok c.plan.result P (λ p. (summary : List ℕ → Summary) (blobs : List (List ℕ)) → IsTidy content → IsPlanned summary blobs content p.edits) Q (λ p h. (told p h).planned) c.plan.ensures;
      flags = if_ok c.plan.result P (λ p. AreTables content → AreCountsFlagsRight content p.edits) Q (λ p h. (told p h).flags) c.plan.ensures;
      new_state = if_ok c.plan.result P (λ p. HasNewState OfEmail g (tree_of p.reply) p.edits) Q (λ p h. (told p h).new_state) c.plan.ensures;
    }

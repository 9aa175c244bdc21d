use Rattle.std.proofs.Common.{List}
use Rattle.jm_json.specs.declared.invocation.Created.{Created}
use Rattle.mail_counts.specs.TidyBut.{IsTidyButThreadsAndCounts}
use Rattle.mail_records.specs.Edits.{after_edits}
use Rattle.set_parts.specs.Arguments.{destroys_in, updates_in}
use Rattle.set_parts.specs.Views.{AreMade}
use Rattle.email_set.specs.Plans.{steps_after}
use Rattle.email_set.specs.Views.{IsStepsOf}
use Rattle.email_set.specs.declared.steps.Steps.{Steps}
use Rattle.email_set.proofs.EarlierEdits.{all_led}
use Rattle.email_set.proofs.Results.{ok_map}
use Rattle.email_set.proofs.plan.plan_steps_after.Goals as goal

pub returns : goal.returns
returns c =
    let content = c.args.content.now.content in
    let first = c.args.first in
    let ms = c.args.members.now in
    let P = λ (p : Steps). (made : List Created) → AreMade c.args.created made → IsStepsOf p (steps_after content first made ms) in
    let led = λ (p : Steps) (is : P p) (made : List Created) (are : AreMade c.args.created made) (tidy : IsTidyButThreadsAndCounts (after_edits content first)).
    all_led content first p.edits made (updates_in ms) (destroys_in ms) (is made are).edits tidy in
    record {
      steps = ok_map c.perform_after.result P P (λ p is. is) c.perform_after.ensures;
      fits = ok_map c.perform_after.result P _ (λ p is made are tidy. (led p is made are tidy).fits) c.perform_after.ensures;
      tidy = ok_map c.perform_after.result P _ (λ p is made are tidy. (led p is made are tidy).tidy) c.perform_after.ensures;
      kept = ok_map c.perform_after.result P _ (λ p is made are tidy. (led p is made are tidy).kept) c.perform_after.ensures;
    }

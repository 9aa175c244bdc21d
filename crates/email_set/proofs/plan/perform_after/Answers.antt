use Rattle.std.proofs.Common.{◌∙◌, List, ap₂, subst}
use Rattle.jm_json.specs.declared.invocation.Created.{Created}
use Rattle.set_parts.specs.Arguments.{destroys_in, updates_in}
use Rattle.set_parts.specs.Steps.{Progress, before_steps, with_edits}
use Rattle.email_set.specs.Emails.{after_steps}
use Rattle.email_set.specs.Views.{IsStepsOf}
use Rattle.email_set.proofs.EarlierEdits.{steps_before}
use Rattle.email_set.proofs.Results.{ok_map}
use Rattle.email_set.proofs.plan.perform_after.Goals as goal

pub returns : goal.returns
returns c =
    let content = c.args.content.now.content in
    let first = c.args.first in
    let ms = c.args.members.now in
    let follows = c.in_ok-enter_edits.ensures content (before_steps content) c.start_planner-planner.ensures c.requires.first in
    ok_map c.perform_steps.result _ _
    (λ p told (made : List Created) are.
    let begin : Progress = with_edits first (before_steps content) in
    subst (IsStepsOf p)
    (ap₂ (λ us ds. after_steps begin made us ds) c.read_updates.ensures c.requires.destroys ∙ steps_before content first made (updates_in ms) (destroys_in ms))
    (told made begin are (c.in_ok-destroyed.ensures made are.texts) follows))
    c.perform_steps.ensures

use Rattle.std.proofs.Common.{◌≡◌, List, sym, subst}
use Rattle.jm_json.specs.declared.invocation.Created.{Created}
use Rattle.set_parts.specs.Steps.{Progress}
use Rattle.set_parts.specs.Views.{AreMade}
use Rattle.set_parts.proofs.Parts.{on_ok}
use Rattle.email_set.specs.Emails.{destroy_email, email_meant}
use Rattle.email_set.specs.Views.{Follows, IsEmailStep}
use Rattle.email_set.proofs.EmailSteps.{destroy_step}
use Rattle.email_set.proofs.Stepping.{entered_destroy}
use Rattle.email_set.proofs.steps.perform_destroy.Goals as goal

pub returns : goal.returns
returns c =
    let base = c.args.setting.now.content.now.content in
    on_ok c.enter_destroy.result _ _
    (λ enters (made : List Created) (s : Progress) (m : AreMade c.args.setting.now.created made) (f : Follows base c.args.planner.now s).
    let is : c.in_ok-step.step ≡ destroy_email made s.content c.args.id.now = c.in_ok-step.ensures made s m f in
    let own : IsEmailStep c.in_ok-step.step = subst IsEmailStep (sym is) (destroy_step (email_meant made s.content c.args.id.now)) in
    entered_destroy made base c.enter_destroy.new.planner s c.args.id.now c.find_reported_id-reported.result.now c.in_ok-step.step (c.find_reported_id-reported.ensures made m.texts) is (enters base s f own))
    c.enter_destroy.ensures

use Rattle.std.proofs.Common.{◌≡◌, ◌∙◌, ◌≤◌, List, ℕ, length, sym, ap, subst, arith}
use Rattle.jm_json.specs.Json.{member_of}
use Rattle.jm_json.specs.declared.invocation.Created.{Created}
use Rattle.set_parts.specs.Arguments.{update_in}
use Rattle.set_parts.specs.CreationIds.{reported_id}
use Rattle.set_parts.specs.Steps.{Progress}
use Rattle.set_parts.specs.Views.{AreDestroyed, AreMade}
use Rattle.email_set.specs.Emails.{email_meant, update_email}
use Rattle.email_set.specs.Views.{Follows, IsEmailStep}
use Rattle.email_set.proofs.EmailSteps.{update_step}
use Rattle.email_set.proofs.Stepping.{entered_update, from_item, update_more, updated_by, updates_end}
use Rattle.email_set.proofs.steps.perform_updates.Goals as goal

pub loop-update-preserved : goal.loop-update-preserved
loop-update-preserved c =
    λ (made : List Created) (destroys : List (List ℕ)) (s : Progress) (m : AreMade c.args.setting.now.created made) (d : AreDestroyed c.args.setting.now.destroyed made destroys)
    (f : Follows c.args.setting.now.content.now.content c.args.planner.now s).
    let base = c.args.setting.now.content.now.content in
    let was = c.loop-update.invariant made destroys s m d f in
    let update = c.update-item.result in
    let x = update_in (member_of update) in
    let is : c.in_ok-step.step ≡ update_email made destroys was.0.content x = c.in_ok-step.ensures made destroys was.0 m d was.1 in
    let own : IsEmailStep c.in_ok-step.step = subst IsEmailStep (sym is) (update_step made destroys was.0.content x (email_meant made was.0.content x.id)) in (
      updated_by made destroys was.0 update,
      entered_update made destroys base c.enter_update.new.planner was.0 update c.find_reported_id-id.result.now c.in_ok-step.step
          (c.find_reported_id-id.ensures made m.texts ∙ ap (reported_id made) c.as_str.ensures) is (c.in_ok-enter_update.ensures base was.0 was.1 own),
      update_more made destroys s was.0 c.args.updates.now c.loop-update.update-index update (from_item c.args.updates.now c.loop-update.update-index update c.loop-update-test.true c.update-item.is) was.2,
    )

pub returns : goal.returns
returns c =
    λ (made : List Created) (destroys : List (List ℕ)) (s : Progress) (m : AreMade c.args.setting.now.created made) (d : AreDestroyed c.args.setting.now.destroyed made destroys)
    (f : Follows c.args.setting.now.content.now.content c.args.planner.now s).
    let was = c.loop-update.invariant made destroys s m d f in
    let end : length c.args.updates.now ≤ c.loop-update.update-index = omega arith in
    subst (Follows c.args.setting.now.content.now.content c.loop-update.planner) (updates_end made destroys s was.0 c.args.updates.now c.loop-update.update-index end was.2) was.1

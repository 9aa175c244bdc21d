use Rattle.std.proofs.Common.{◌≤◌, List, ℕ, length, subst, arith}
use Rattle.jm_json.specs.declared.invocation.Created.{Created}
use Rattle.set_parts.specs.Steps.{Progress}
use Rattle.set_parts.specs.Views.{AreDestroyed, AreMade}
use Rattle.mailbox_updates.specs.UpdateViews.{Updating}
use Rattle.mailbox_updates.proofs.Updating.{from_item, update_more, updated_by, updates_end}
use Rattle.mailbox_updates.proofs.updates.perform_each.Goals as goal

pub loop-update-preserved : goal.loop-update-preserved
loop-update-preserved c =
    λ (made : List Created) (destroys : List (List ℕ)) (s : Progress) (are : AreMade c.args.setting.now.created made) (gone : AreDestroyed c.args.setting.now.destroyed made destroys) (up : Updating c.args.current.now s).
    let was = c.loop-update.invariant made destroys s are gone up in
    let update = c.update-item.result in (
      updated_by c.args.alone made destroys was.0 update,
      c.in_ok-perform_update.ensures made destroys was.0 are gone was.1,
      update_more c.args.alone made destroys s was.0 c.args.updates.now c.loop-update.update-index update (from_item c.args.updates.now c.loop-update.update-index update c.loop-update-test.true c.update-item.is) was.2,
    )

pub returns : goal.returns
returns c =
    λ (made : List Created) (destroys : List (List ℕ)) (s : Progress) (are : AreMade c.args.setting.now.created made) (gone : AreDestroyed c.args.setting.now.destroyed made destroys) (up : Updating c.args.current.now s).
    let was = c.loop-update.invariant made destroys s are gone up in
    let end : length c.args.updates.now ≤ c.loop-update.update-index = omega arith in
    subst (Updating c.loop-update.current) (updates_end c.args.alone made destroys s was.0 c.args.updates.now c.loop-update.update-index end was.2) was.1

use Rattle.std.proofs.Common.{◌≡◌, ℕ, List, ap, ◌∙◌, subst}
use Rattle.jm_json.specs.Json.{member_of}
use Rattle.set_parts.specs.Arguments.{update_in}
use Rattle.set_parts.specs.CreationIds.{reported_id}
use Rattle.set_parts.specs.Steps.{after_update}
use Rattle.set_parts.proofs.Parts.{on_ok}
use Rattle.mailbox_updates.specs.UpdateViews.{Updating}
use Rattle.mailbox_updates.specs.Updates.{update_as}
use Rattle.mailbox_updates.proofs.updates.perform_update.Goals as goal

pub returns : goal.returns
returns c =
    on_ok c.enter_update.result _ _
    (λ all made destroys s are gone up.
    let x = update_in (member_of c.args.update.now) in
    let step = update_as c.args.alone made destroys s.content x in
    let id : c.find_reported_id-id.result.now ≡ reported_id made x.id = c.find_reported_id-id.ensures made are.texts ∙ ap (reported_id made) c.as_str.ensures in
    subst (λ (i : List ℕ). Updating c.enter_update.new.current (after_update i s step)) id
    (all s step up (c.in_ok-decision.ensures made destroys s.content are gone up.tracks.shows up.count)))
    c.enter_update.ensures

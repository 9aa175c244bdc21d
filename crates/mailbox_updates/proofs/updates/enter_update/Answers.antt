use Rattle.std.proofs.Common.{◌≡◌, true, is_some, sym, ap, ◌∙◌, subst}
use Rattle.mail_records.specs.Contents.{mailbox_at}
use Rattle.set_parts.specs.SetErrors.{error_tree}
use Rattle.set_parts.specs.Steps.{after_update, note_not_updated, note_updated}
use Rattle.set_parts.specs.declared.steps.Step.{Step}
use Rattle.set_parts.proofs.Parts.{on_ok}
use Rattle.mailbox_updates.specs.UpdateViews.{PutsPresent, Updating, step_of}
use Rattle.mailbox_updates.specs.declared.current.Current.{Current}
use Rattle.mailbox_updates.proofs.Updating.{updating_nothing, updating_told}
use Rattle.mailbox_updates.proofs.updates.enter_update.Goals as goal

pub returns-in-Reject : goal.returns-in-Reject
returns-in-Reject c =
    let p : Current = c.args.current.now in
    let id = c.args.id.now in
    on_ok c.note_not_updated.result _ _
    (λ told s step up does.
    subst (λ (x : Step). Updating (record p { reported = c.note_not_updated.new.self }) (after_update id s x)) (ap step_of (sym c.in-Reject.is) ∙ does.step)
    (updating_told p c.note_not_updated.new.self s (note_not_updated id (error_tree c.in-Reject.error) s.reported)
    (told ∙ ap (note_not_updated id (error_tree c.in-Reject.error)) up.tracks.reported) up))
    c.note_not_updated.ensures

pub returns-in-Leave : goal.returns-in-Leave
returns-in-Leave c =
    let p : Current = c.args.current.now in
    let id = c.args.id.now in
    on_ok c.note_updated.result _ _
    (λ told s step up does.
    subst (λ (x : Step). Updating (record p { reported = c.note_updated.new.self }) (after_update id s x)) (ap step_of (sym c.in-Leave.is) ∙ does.step)
    (updating_nothing (record p { reported = c.note_updated.new.self }) (record s { reported = note_updated id s.reported })
    (updating_told p c.note_updated.new.self s (note_updated id s.reported) (told ∙ ap (note_updated id) up.tracks.reported) up)))
    c.note_updated.ensures

pub returns-in_ok-note_updated-in-Put : goal.returns-in_ok-note_updated-in-Put
returns-in_ok-note_updated-in-Put c =
    let p : Current = c.args.current.now in
    let id = c.args.id.now in
    on_ok c.put_updated.result _ _
    (λ all s step up does.
    let t = record s { reported = note_updated id s.reported } in
    let here : Updating (record p { reported = c.note_updated-in-Put.new.self }) t =
    updating_told p c.note_updated-in-Put.new.self s (note_updated id s.reported) (c.in_ok-note_updated-in-Put.ensures ∙ ap (note_updated id) up.tracks.reported) up in
    let there : is_some (mailbox_at s.content c.in-Put.item.number) ≡ true = subst (PutsPresent s.content) c.in-Put.is does.there in
    subst (λ (x : Step). Updating c.put_updated.new.current (after_update id s x)) (ap step_of (sym c.in-Put.is) ∙ does.step) (all t here there))
    c.put_updated.ensures

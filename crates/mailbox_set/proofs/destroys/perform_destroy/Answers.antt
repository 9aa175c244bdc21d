use Rattle.std.proofs.Common.{◌≡◌}
use Rattle.set_parts.specs.CreationIds.{reported_id}
use Rattle.set_parts.specs.Steps.{note_destroyed}
use Rattle.set_parts.proofs.Parts.{on_ok}
use Rattle.mailbox_set.specs.Destroys.{destroy_mailbox}
use Rattle.mailbox_updates.specs.declared.current.Current.{Current}
use Rattle.mailbox_set.proofs.Tracking.{reports_destroyed, reports_rejected}
use Rattle.mailbox_set.proofs.destroys.perform_destroy.Goals as goal

pub returns-in_ok-note_destroyed-in-Ok : goal.returns-in_ok-note_destroyed-in-Ok
returns-in_ok-note_destroyed-in-Ok c =
    let p : Current = c.args.current.now in
    let id = c.args.id.now in
    on_ok c.destroy_present.result _ _
    (λ all made s are tracks.
    let is = c.in-Ok.ensures made s.content are tracks.shows in
    let same : c.find_reported_id-reported.result.now ≡ reported_id made id = c.find_reported_id-reported.ensures made are.texts in
    reports_destroyed p c.note_destroyed.new.self c.destroy_present.new.current s c.find_reported_id-reported.result.now (reported_id made id) c.in-Ok.number
    (destroy_mailbox made c.args.setting.now.removes_emails s.content id) c.in_ok-note_destroyed-in-Ok.ensures same is.done tracks (λ follows. all (record s { reported = note_destroyed (reported_id made id) s.reported }) follows is.there))
    c.destroy_present.ensures

pub returns-in-Err : goal.returns-in-Err
returns-in-Err c =
    let p : Current = c.args.current.now in
    let id = c.args.id.now in
    on_ok c.note_not_destroyed.result _ _
    (λ told made s are tracks.
    let is = c.in-Err.ensures made s.content are tracks.shows in
    let same : c.find_reported_id-reported.result.now ≡ reported_id made id = c.find_reported_id-reported.ensures made are.texts in
    reports_rejected p c.note_not_destroyed.new.self s c.find_reported_id-reported.result.now (reported_id made id) c.in-Err.error
    (destroy_mailbox made c.args.setting.now.removes_emails s.content id) told same is tracks)
    c.note_not_destroyed.ensures

use Rattle.std.proofs.Common.{◌≡◌, ◌≤◌, ◌∙◌, ap, sym, subst}
use Rattle.mail_records.specs.Histories.{Floors, FloorsAtMost, floor_of}
use Rattle.mail_records.specs.States.{last_position}
use Rattle.state_log.specs.Logs.{ids_in, log_end}
use Rattle.state_log.specs.Positions.{last_or, places_of}
use Rattle.state_log.proofs.Kept.{last_position-notes}
use Rattle.state_log.proofs.Placed.{state-kept}
use Rattle.state_log.proofs.log.Log.state_of.Goals as goal

pub returns-clause-state : goal.returns-clause-state
returns-clause-state c =
    let inside = c.self.inside in
    let kind = c.args.kind in
    let floors : Floors = record { mailbox = inside.floors.mailbox; email = inside.floors.email; thread = inside.floors.thread } in
    subst (λ v. c.last_or.result ≡ last_position kind v.floor v.floors (ids_in v.notes)) c.self.view_is
    (c.last_or.ensures
    ∙ (ap (λ ps. last_or ps c.find_kind_position.result) c.of_kind.ensures
    ∙ (ap (λ n. last_or (places_of inside.places kind) n) c.find_kind_position.ensures
    ∙ state-kept kind inside.floor floors inside.notes.items inside.places c.self.invariant)))

pub returns-clause-reached : goal.returns-clause-reached
returns-clause-reached c =
    let now = c.args.self.now in
    subst (λ n. (floor_of now.floors c.args.kind ≤ n) × (n ≤ log_end now)) (sym (returns-clause-state c))
    (last_position-notes c.args.kind now.floor now.floors now.notes (subst (λ v. FloorsAtMost v.floors v.floor) c.self.view_is c.self.invariant.low))

use Rattle.std.proofs.Common.{◌≡◌, ◌≤◌, ◌-◌, ◌∙◌, ap, sym, subst, take}
use Rattle.mail_records.specs.Histories.{Floors, FloorsAtMost, floor_of}
use Rattle.mail_records.specs.States.{last_position}
use Rattle.state_log.specs.Logs.{ids_in, log_end}
use Rattle.state_log.specs.Positions.{count_upto, last_or, places_of}
use Rattle.state_log.proofs.Kept.{last_position-front}
use Rattle.state_log.proofs.Placed.{Keeps-in_order, state_at-kept}
use Rattle.state_log.proofs.log.Log.state_at.Goals as goal

pub find_last_upto-requires : goal.find_last_upto-requires
find_last_upto-requires c =
    let inside = c.self.inside in
    let floors : Floors = record { mailbox = inside.floors.mailbox; email = inside.floors.email; thread = inside.floors.thread } in
    Keeps-in_order inside.floor floors inside.notes.items inside.places c.self.invariant

pub returns-clause-state : goal.returns-clause-state
returns-clause-state c =
    let inside = c.self.inside in
    let kind = c.args.kind in
    let floors : Floors = record { mailbox = inside.floors.mailbox; email = inside.floors.email; thread = inside.floors.thread } in
    let ps = places_of inside.places kind in
    subst (λ v. c.find_last_upto.result ≡ last_position kind v.floor v.floors (take (c.args.position - v.floor) (ids_in v.notes))) c.self.view_is
    (c.find_last_upto.ensures
    ∙ (ap (λ n. last_or (take (count_upto ps c.args.position) ps) n) c.find_kind_position-floor.ensures
    ∙ state_at-kept kind inside.floor floors inside.notes.items inside.places c.args.position c.self.invariant))

pub returns-clause-reached : goal.returns-clause-reached
returns-clause-reached c =
    let now = c.args.self.now in
    subst (λ n. (floor_of now.floors c.args.kind ≤ n) × (n ≤ log_end now)) (sym (returns-clause-state c))
    (last_position-front c.args.kind now.floor now.floors now.notes (c.args.position - now.floor) (subst (λ v. FloorsAtMost v.floors v.floor) c.self.view_is c.self.invariant.low))

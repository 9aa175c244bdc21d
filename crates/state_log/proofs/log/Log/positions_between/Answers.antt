use Rattle.std.proofs.Common.{◌≡◌, ◌+◌, ◌-◌, ◌∙◌, subst}
use Rattle.mail_records.specs.Histories.{Floors}
use Rattle.mail_records.specs.States.{ids_between}
use Rattle.state_log.specs.Logs.{ids_in}
use Rattle.state_log.specs.Positions.{places_of, positions_of}
use Rattle.state_log.proofs.Placed.{Keeps-in_order, places-are, positions-between}
use Rattle.state_log.proofs.log.Log.positions_between.Goals as goal

pub positions_between-requires-clause-rise : goal.positions_between-requires-clause-rise
positions_between-requires-clause-rise c =
    let inside = c.self.inside in
    let floors : Floors = record { mailbox = inside.floors.mailbox; email = inside.floors.email; thread = inside.floors.thread } in
    Keeps-in_order inside.floor floors inside.notes.items inside.places c.self.invariant

pub returns : goal.returns
returns c =
    let inside = c.self.inside in
    let kind = c.args.kind in
    let from = c.args.from in
    let upto = c.args.upto in
    let floors : Floors = record { mailbox = inside.floors.mailbox; email = inside.floors.email; thread = inside.floors.thread } in
    subst (λ v. c.positions_between.result.now ≡ positions_of kind (v.floor + (from - v.floor)) (ids_between v.floor from upto (ids_in v.notes))) c.self.view_is
    (c.positions_between.ensures
    ∙ positions-between kind inside.floor (ids_in inside.notes.items) (places_of inside.places kind) from upto
    (places-are kind inside.floor floors inside.notes.items inside.places c.self.invariant) c.requires.order)

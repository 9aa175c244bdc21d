use Rattle.std.proofs.Common.{◌≡◌, ◌-◌, ◌∙◌, subst, drop, take}
use Rattle.mail_records.specs.Histories.{Floors}
use Rattle.state_log.specs.Logs.{threads_named}
use Rattle.state_log.proofs.Placed.{Keeps-in_order, threads-between}
use Rattle.state_log.proofs.log.Log.threads_between.Goals as goal

pub threads_between-requires-clause-rise : goal.threads_between-requires-clause-rise
threads_between-requires-clause-rise c =
    let inside = c.self.inside in
    let floors : Floors = record { mailbox = inside.floors.mailbox; email = inside.floors.email; thread = inside.floors.thread } in
    Keeps-in_order inside.floor floors inside.notes.items inside.places c.self.invariant

pub returns : goal.returns
returns c =
    let inside = c.self.inside in
    let from = c.args.from in
    let upto = c.args.upto in
    subst (λ v. c.threads_between.result.now ≡ threads_named (drop (from - v.floor) (take (upto - v.floor) v.notes))) c.self.view_is
    (c.threads_between.ensures
    ∙ threads-between inside.floor inside.notes.items inside.places.email inside.places.email_threads from upto
    c.self.invariant.email c.self.invariant.email_threads c.self.invariant.named c.requires.order)

use Rattle.std.specs.Prelude.{vec_capacity, vec_len}
use Rattle.std.proofs.Common.{◌≡◌, ◌≤◌, ◌+◌, ◌-◌, ◌∙◌, ap, sym, subst, take, drop, length, List, ℕ, min}
use Rattle.mail_records.specs.Histories.{Floors, FloorsAtMost}
use Rattle.jm_base.specs.declared.identifiers.Kind.{Kind}
use Rattle.jm_base.specs.declared.identifiers.Kind.TheVariants.{Mailbox as OfMailbox, Email as OfEmail, Thread as OfThread}
use Rattle.mail_records.specs.States.{last_position}
use Rattle.state_log.specs.Logs.{Keeps, ids_in, log_end}
use Rattle.state_log.specs.declared.notes.Note.{Note}
use Rattle.state_log.proofs.Placed.{IsLogOf-moved, Keeps-in_order, Keeps-moved, floors-low}
use Rattle.state_log.proofs.log.Log.move_floor.Goals as goal

pub drop_upto-requires : goal.drop_upto-requires
drop_upto-requires c =
    let inside = c.self.inside in
    let floors : Floors = record { mailbox = inside.floors.mailbox; email = inside.floors.email; thread = inside.floors.thread } in
    Keeps-in_order inside.floor floors inside.notes.items inside.places c.self.invariant

pub invariant_of-self : goal.invariant_of-self
invariant_of-self c =
    let inside = c.self.inside in
    let new = c.args.floor in
    let floors : Floors = record { mailbox = inside.floors.mailbox; email = inside.floors.email; thread = inside.floors.thread } in
    let moved : Floors = record { mailbox = c.state_at.result; email = c.state_at-2.result; thread = c.state_at-3.result } in
    let at : Kind → ℕ = λ kind. last_position kind inside.floor floors (take (new - inside.floor) (ids_in inside.notes.items)) in
    let later : inside.floor ≤ new = subst (λ v. v.floor ≤ new) (sym c.self.view_is) c.requires.later in
    let within : new ≤ inside.floor + length inside.notes.items = subst (λ v. new ≤ log_end v) (sym c.self.view_is) c.requires.within in
    let mailbox : c.state_at.result ≡ at OfMailbox = c.state_at.ensures.state ∙ ap (λ v. last_position OfMailbox v.floor v.floors (take (new - v.floor) (ids_in v.notes))) (sym c.self.view_is) in
    let email : c.state_at-2.result ≡ at OfEmail = c.state_at-2.ensures.state ∙ ap (λ v. last_position OfEmail v.floor v.floors (take (new - v.floor) (ids_in v.notes))) (sym c.self.view_is) in
    let thread : c.state_at-3.result ≡ at OfThread = c.state_at-3.ensures.state ∙ ap (λ v. last_position OfThread v.floor v.floors (take (new - v.floor) (ids_in v.notes))) (sym c.self.view_is) in
    let are : moved ≡ record { mailbox = at OfMailbox; email = at OfEmail; thread = at OfThread } = λ i. record { mailbox = mailbox i; email = email i; thread = thread i } in
    let low : FloorsAtMost moved new = subst (λ fs. FloorsAtMost fs new) (sym are) (floors-low inside.floor new floors (ids_in inside.notes.items) c.self.invariant.low later) in
    subst (λ (ns : List Note). Keeps new moved ns c.drop_upto.new.self) (sym c.cut_front.ensures.items)
    (Keeps-moved inside.floor new floors moved inside.notes.items inside.places c.drop_upto.new.self c.self.invariant later within low
    c.drop_upto.ensures.mailbox c.drop_upto.ensures.email c.drop_upto.ensures.thread c.drop_upto.ensures.email_threads)

pub returns-clause-history : goal.returns-clause-history
returns-clause-history c =
    let now = c.args.self.now in
    let new = c.args.floor in
    let notes : c.cut_front.new.items.items ≡ drop (new - now.floor) now.notes = c.cut_front.ensures.items ∙ ap (λ v. drop (new - v.floor) v.notes) c.self.view_is in
    λ h count is at.
    IsLogOf-moved h count new now _ is at
    (λ i. record {
      floor = new;
      floors = record { mailbox = c.state_at.ensures.state i; email = c.state_at-2.ensures.state i; thread = c.state_at-3.ensures.state i };
      notes = notes i;
      spare = min (vec_capacity c.cut_front.new.items - vec_len c.cut_front.new.items) c.drop_upto.new.self.spare;
    })

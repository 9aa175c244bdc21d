use Rattle.std.proofs.Common.{◌≡◌, Option, Some, None, sym, ap, ◌∙◌, subst}
use Rattle.jm_json.specs.Json.{member_of}
use Rattle.mail_records.specs.declared.records.Mailbox.{Mailbox}
use Rattle.set_parts.specs.Arguments.{update_in}
use Rattle.mailbox_creates.specs.Properties.{mailbox_meant}
use Rattle.mailbox_updates.specs.UpdateViews.{Decides}
use Rattle.mailbox_updates.specs.Updates.{deciding, update_by}
use Rattle.mailbox_updates.proofs.Showing.{if_more, meant_there}
use Rattle.mailbox_updates.proofs.updates.decide.Goals as goal

pub returns-in-Some : goal.returns-in-Some
returns-in-Some c =
    if_more c.decide_there.result _ _
    (λ y all made destroys d are gone shows count.
    let x = update_in (member_of c.args.update.now) in
    let m : Mailbox = c.in-Some.mailbox.now in
    let meant : mailbox_meant made d x.id ≡ Some m = sym (ap (mailbox_meant made d) c.as_str.ensures) ∙ sym (c.in-Some.ensures made d are shows) in
    subst (λ (o : Option Mailbox). Decides d y (update_by (deciding c.args.alone) made destroys d x o)) (sym meant)
    (all made destroys d are gone shows count (meant_there made d x.id m meant)))
    c.decide_there.ensures

pub returns-in-None : goal.returns-in-None
returns-in-None c =
    λ made destroys d are gone shows count.
    let x = update_in (member_of c.args.update.now) in
    let none : mailbox_meant made d x.id ≡ None = sym (ap (mailbox_meant made d) c.as_str.ensures) ∙ sym (c.in-None.ensures made d are shows) in
    record { step = sym (ap (update_by (deciding c.args.alone) made destroys d x) none); there = tt }

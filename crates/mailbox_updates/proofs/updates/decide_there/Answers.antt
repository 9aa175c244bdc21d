use Rattle.std.proofs.Common.{◌≡◌, Bool, true, false, cond, sym, ap, ◌∙◌, subst}
use Rattle.jm_json.specs.Json.{member_of}
use Rattle.set_parts.specs.Arguments.{update_in}
use Rattle.set_parts.specs.Steps.{is_destroyed}
use Rattle.set_parts.specs.declared.set_errors.SetError.TheVariants.{WillDestroy}
use Rattle.set_parts.specs.declared.steps.Step.{Step}
use Rattle.set_parts.specs.declared.steps.Step.TheVariants.{Rejected}
use Rattle.mailbox_updates.specs.UpdateViews.{Decides}
use Rattle.mailbox_updates.specs.Updates.{deciding, mailbox_after}
use Rattle.mailbox_updates.proofs.Showing.{if_more}
use Rattle.mailbox_updates.proofs.updates.decide_there.Goals as goal

pub returns-then-is_destroyed : goal.returns-then-is_destroyed
returns-then-is_destroyed c =
    λ made destroys d are gone shows count there.
    let x = update_in (member_of c.args.update.now) in
    let m = c.args.mailbox.now in
    let one : is_destroyed made destroys x.id ≡ true = sym (ap (is_destroyed made destroys) c.as_str.ensures) ∙ (sym (c.is_destroyed.ensures made destroys are gone) ∙ c.if-is_destroyed.true) in
    record {
      step = sym (ap (λ (b : Bool). cond b (Rejected WillDestroy) (deciding c.args.alone d m (mailbox_after d made m x.patch))) one);
      there = tt;
    }

pub returns : goal.returns
returns c =
    if_more c.decide_changed.result _ _
    (λ y all made destroys d are gone shows count there.
    let x = update_in (member_of c.args.update.now) in
    let m = c.args.mailbox.now in
    let none : is_destroyed made destroys x.id ≡ false = sym (ap (is_destroyed made destroys) c.as_str.ensures) ∙ (sym (c.is_destroyed.ensures made destroys are gone) ∙ c.if-is_destroyed.false) in
    subst (λ (step : Step). Decides d y step)
    (ap (deciding c.args.alone d m) (c.in_ok-changed.ensures.after made d are shows)
    ∙ sym (ap (λ (b : Bool). cond b (Rejected WillDestroy) (deciding c.args.alone d m (mailbox_after d made m x.patch))) none))
    (all d shows count there))
    c.decide_changed.ensures

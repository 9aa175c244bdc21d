use Rattle.std.proofs.Common.{sym, ap, ◌∙◌, subst}
use Rattle.mailbox_updates.specs.UpdateViews.{Decides, IsOf}
use Rattle.mailbox_updates.specs.Updates.{deciding}
use Rattle.mailbox_updates.specs.declared.patches.Changed.{Changed}
use Rattle.mailbox_updates.proofs.Showing.{if_more}
use Rattle.mailbox_updates.proofs.Updating.{decided_invalid}
use Rattle.mailbox_updates.proofs.updates.decide_changed.Goals as goal

pub returns-in-Invalid : goal.returns-in-Invalid
returns-in-Invalid c =
    λ d shows count there.
    record {
      step = decided_invalid c.args.alone d c.args.mailbox.now c.in-Invalid.error ∙ ap (deciding c.args.alone d c.args.mailbox.now) (sym c.in-Invalid.is);
      there = tt;
    }

pub decide_valid-requires : goal.decide_valid-requires
decide_valid-requires c = subst (IsOf c.args.mailbox.now.number) c.in-Valid.is c.requires

pub returns-in-Valid : goal.returns-in-Valid
returns-in-Valid c =
    if_more c.decide_valid.result _ _
    (λ x all d shows count there. subst (λ (y : Changed). Decides d x (deciding c.args.alone d c.args.mailbox.now y)) (sym c.in-Valid.is) (all d shows count there))
    c.decide_valid.ensures

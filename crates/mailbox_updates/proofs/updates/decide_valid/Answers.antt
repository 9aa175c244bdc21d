use Rattle.std.proofs.Common.{ℕ, is_some, sym, ap, ◌∙◌, subst}
use Rattle.mail_records.specs.Contents.{mailbox_at}
use Rattle.set_parts.specs.declared.steps.Step.{Step}
use Rattle.mailbox_updates.specs.UpdateViews.{Decides}
use Rattle.mailbox_updates.proofs.Showing.{if_more}
use Rattle.mailbox_updates.proofs.Updating.{decided_alone, decided_together, decided_unchanged}
use Rattle.mailbox_updates.proofs.updates.decide_valid.Goals as goal

pub returns-then-is_unchanged : goal.returns-then-is_unchanged
returns-then-is_unchanged c =
    λ d shows count there.
    record { step = decided_unchanged c.args.alone d c.args.mailbox.now c.args.item (sym c.is_unchanged.ensures ∙ c.if-is_unchanged.true); there = tt }

pub returns-then-alone : goal.returns-then-alone
returns-then-alone c =
    if_more c.check_rules.result _ _
    (λ x all d shows count there.
    subst (λ (y : Step). Decides d x y) (decided_alone c.args.alone d c.args.mailbox.now c.args.item c.if-alone.true (sym c.is_unchanged.ensures ∙ c.if-is_unchanged.false))
    (all d shows count (ap (λ (k : ℕ). is_some (mailbox_at d k)) c.requires ∙ there)))
    c.check_rules.ensures

pub returns : goal.returns
returns c =
    λ d shows count there.
    record {
      step = decided_together c.args.alone d c.args.mailbox.now c.args.item c.if-alone.false (sym c.is_unchanged.ensures ∙ c.if-is_unchanged.false);
      there = ap (λ (k : ℕ). is_some (mailbox_at d k)) c.requires ∙ there;
    }

use Rattle.std.proofs.Common.{◌≡◌, true, false, ℕ, suc, ◌-◌, arith, Option, is_some, sym, ap, ap₂, ◌∙◌}
use Rattle.mail_records.specs.Edits.{after_edit}
use Rattle.mail_records.specs.declared.edits.Edit.TheVariants.{PutMailbox}
use Rattle.mail_counts.specs.Tidy.{ancestor}
use Rattle.mailbox_updates.proofs.Breaking.{length_old}
use Rattle.mailbox_updates.proofs.Chains.{ended_none}
use Rattle.mailbox_updates.proofs.rules.is_chain_broken.Goals as goal

pub loop-at-init : goal.loop-at-init
loop-at-init c =
    λ d shows count there.
    let e = after_edit d (PutMailbox c.args.mailbox.now true false) in
    ap (λ (k : ℕ). is_some (ancestor k e c.args.mailbox.now.parent)) (count ∙ sym (length_old c.args.mailbox.now d.mailboxes shows.table there))

pub returns-then-left-eq0 : goal.returns-then-left-eq0
returns-then-left-eq0 c =
    λ d shows count there.
    let e = after_edit d (PutMailbox c.args.mailbox.now true false) in
    sym (ap₂ (λ (k : ℕ) (o : Option ℕ). is_some (ancestor k e o)) c.if-left-eq0.true c.in-Some.is) ∙ c.loop-at.invariant d shows count there

pub loop-at-preserved : goal.loop-at-preserved
loop-at-preserved c =
    λ d shows count there.
    let e = after_edit d (PutMailbox c.args.mailbox.now true false) in
    let more = c.if-left-eq0.false in
    let one : c.loop-at.left ≡ suc (c.loop-at.left - 1) = omega (arith, more) in
    ap (λ (o : Option ℕ). is_some (ancestor (c.loop-at.left - 1) e o)) (c.find_parent-at.ensures d shows)
    ∙ (sym (ap₂ (λ (k : ℕ) (o : Option ℕ). is_some (ancestor k e o)) one c.in-Some.is) ∙ c.loop-at.invariant d shows count there)

pub returns : goal.returns
returns c =
    λ d shows count there.
    let e = after_edit d (PutMailbox c.args.mailbox.now true false) in
    sym (ap is_some (ap (ancestor c.loop-at.left e) c.in_default.is ∙ ended_none c.loop-at.left e)) ∙ c.loop-at.invariant d shows count there

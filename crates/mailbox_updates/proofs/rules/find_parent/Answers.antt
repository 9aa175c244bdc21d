use Rattle.std.proofs.Common.{ne_eqb, option_and_then, ap, ◌∙◌}
use Rattle.mail_records.specs.declared.records.Mailbox.{Mailbox}
use Rattle.mailbox_updates.proofs.Breaking.{parent_other, parent_same}
use Rattle.mailbox_updates.proofs.rules.find_parent.Goals as goal

pub returns-then-mailbox-number : goal.returns-then-mailbox-number
returns-then-mailbox-number c = λ d shows. parent_same d c.args.mailbox.now c.args.number c.if-mailbox-number.true

pub returns-in-Some : goal.returns-in-Some
returns-in-Some c =
    λ d shows.
    ap (option_and_then (λ (x : Mailbox). x.parent)) (c.in-Some.ensures d shows) ∙ parent_other d c.args.mailbox.now c.args.number (ne_eqb c.args.mailbox.now.number c.args.number c.if-mailbox-number.false)

pub returns-in-None : goal.returns-in-None
returns-in-None c =
    λ d shows.
    ap (option_and_then (λ (x : Mailbox). x.parent)) (c.in-None.ensures d shows) ∙ parent_other d c.args.mailbox.now c.args.number (ne_eqb c.args.mailbox.now.number c.args.number c.if-mailbox-number.false)

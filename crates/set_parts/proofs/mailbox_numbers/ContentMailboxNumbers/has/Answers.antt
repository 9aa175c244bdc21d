use Rattle.std.proofs.Common.{◌∙◌}
use Rattle.set_parts.proofs.Naming.{has_row, is_lent}
use Rattle.set_parts.proofs.mailbox_numbers.ContentMailboxNumbers.has.Goals as goal

pub returns : goal.returns
returns c =
    c.is_some.ensures
    ∙ (is_lent (λ r. r.now) c.mailbox.result _ c.mailbox.ensures ∙ has_row c.args.number c.args.self.now.content.mailboxes)

use Rattle.std.proofs.Common.{◌≡◌, IfOk, subst}
use Rattle.mail_summary.specs.Leaves.{has_attachment_in}
use Rattle.mail_summary.proofs.summary.has_attachment_in_message.Goals as goal

pub returns : goal.returns
returns c =
    subst (λ t. IfOk c.has_attachment.result (λ a. a ≡ has_attachment_in t)) c.in_ok-root.ensures.tree c.has_attachment.ensures

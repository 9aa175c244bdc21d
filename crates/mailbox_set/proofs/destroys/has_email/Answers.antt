use Rattle.std.proofs.Common.{sym, ap, ◌∙◌, not}
use Rattle.std.specs.List.{list_any}
use Rattle.mail_counts.specs.Counts.{is_in}
use Rattle.mailbox_set.proofs.EmailsLeft.{any_left}
use Rattle.mailbox_set.proofs.Ordered.{some_placed}
use Rattle.mailbox_set.proofs.destroys.has_email.Goals as goal

pub returns : goal.returns
returns c =
    λ d shows out.
    let p = c.args.current.now in
    let base = p.content.now.content in
    ap not c.is_empty.ensures
    ∙ (some_placed base c.args.number c.in_mailbox.result.now c.in_mailbox.ensures shows.base_emails
    ∙ (sym (any_left p.destroyed.items c.args.number base.emails out) ∙ ap (list_any (is_in c.args.number)) (sym shows.emails)))

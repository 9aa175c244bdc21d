use Rattle.std.proofs.Common.{Bool, ◌&&◌, not, cond, sym, ap, ◌∙◌}
use Rattle.set_parts.specs.declared.set_errors.SetError.TheVariants.{MailboxHasChild, MailboxHasEmail}
use Rattle.set_parts.specs.declared.steps.Step.TheVariants.{Done, Rejected}
use Rattle.mailbox_set.specs.Destroys.{destroy_edits, has_email}
use Rattle.mailbox_set.proofs.destroys.check_there.Goals as goal

pub returns-then-has_child : goal.returns-then-has_child
returns-then-has_child c =
    λ d shows there.
    let n = c.args.number in
    ap (λ (b : Bool). cond b (Rejected MailboxHasChild) (cond (has_email d n && not c.args.removes_emails) (Rejected MailboxHasEmail) (Done (destroy_edits d n)))) (sym (c.has_child.ensures d shows) ∙ c.if-has_child.true)

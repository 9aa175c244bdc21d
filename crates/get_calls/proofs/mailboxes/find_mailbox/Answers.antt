use Rattle.std.proofs.Common.{sym, ◌∙◌}
use Rattle.mail_counts.proofs.Named.{named_by_id, named_by_no_id, named_by_other_kind}
use Rattle.get_calls.proofs.mailboxes.find_mailbox.Goals as goal

pub returns-in-Mailbox : goal.returns-in-Mailbox
returns-in-Mailbox c =
    let ok = c.in-Ok.ensures.ok in
    rw (named_by_id c.in-Ok.id c.args.id.now c.args.content.now.content.mailboxes ok.0 (sym c.as_bytes.ensures.value ∙ ok.1) c.in-Mailbox.is) c.mailbox.ensures

pub returns-in_default : goal.returns-in_default
returns-in_default c =
    let ok = c.in-Ok.ensures.ok in
    named_by_other_kind c.in-Ok.id c.args.id.now c.args.content.now.content.mailboxes (sym c.as_bytes.ensures.value ∙ ok.1) c.in_default.not-Mailbox

pub returns-in-Err : goal.returns-in-Err
returns-in-Err c = named_by_no_id c.args.id.now c.args.content.now.content.mailboxes (rw c.as_bytes.ensures.value at c.in-Err.ensures.err)

use Rattle.std.proofs.Common.{ap, ◌∙◌, subst}
use Rattle.mail_records.specs.Contents.{email_number}
use Rattle.mail_records.specs.Tables.{IsTable}
use Rattle.mail_counts.specs.Touched.{rising}
use Rattle.mailbox_set.proofs.Ordered.{placed_numbers}
use Rattle.mailbox_set.proofs.destroys.find_emails.Goals as goal

pub returns : goal.returns
returns c =
    let d = c.args.content.now.content in
    c.put_in_order.ensures.is
    ∙ (ap rising c.in_ok-numbers.ensures
    ∙ placed_numbers d c.args.mailbox c.in_mailbox.result.now c.in_mailbox.ensures (subst (IsTable email_number) c.emails-in_order.ensures.items c.emails-in_order.ensures.table))

use Rattle.mail_records.specs.Contents.{AreTables, mailbox_number, email_number, thread_number}
use Rattle.mail_counts.proofs.Found.{table_at}
use Rattle.tidy_check.proofs.Passing.{tidy_result}
use Rattle.tidy_check.proofs.content.is_tidy.Goals as goal

pub returns : goal.returns
returns c =
    let tables : AreTables c.args.content.now.content =
    record {
      mailboxes = table_at mailbox_number _ _ c.mailboxes-mailboxes.ensures.items c.mailboxes-mailboxes.ensures.table;
      emails = table_at email_number _ _ c.emails-emails.ensures.items c.emails-emails.ensures.table;
      threads = table_at thread_number _ _ c.threads-threads.ensures.items c.threads-threads.ensures.table;
    } in
    tidy_result c.passes.result c.args.content.now.content tables c.passes.ensures

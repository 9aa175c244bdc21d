use Rattle.mail_records.specs.Contents.{AreTables, email_number, mailbox_number, thread_number}
use Rattle.mail_records.proofs.Growth.{AreTables-after_edits}
use Rattle.mail_counts.proofs.Found.{table_at}
use Rattle.mail_counts.proofs.overlay.Overlaid.new.Goals as goal

pub returns-clause-tables : goal.returns-clause-tables
returns-clause-tables c =
    let tables : AreTables c.args.content.now.content =
    record {
      mailboxes = table_at mailbox_number _ _ c.mailboxes-mailboxes.ensures.items c.mailboxes-mailboxes.ensures.table;
      emails = table_at email_number _ _ c.emails-emails.ensures.items c.emails-emails.ensures.table;
      threads = table_at thread_number _ _ c.threads-threads.ensures.items c.threads-threads.ensures.table;
    } in
    AreTables-after_edits c.args.edits.now c.args.content.now.content tables

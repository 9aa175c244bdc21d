use Rattle.std.proofs.Common.{◌≡◌, ◌≤◌, take}
use Rattle.mail_records.specs.Contents.{email_number}
use Rattle.mail_records.specs.Tables.{without_all}
use Rattle.mail_records.proofs.waiting.drop_few_emails.Given as goal

abbrev pub invariant-loop-number : goal.invariant-loop-number
invariant-loop-number l = record {
  content : l.content.content ≡ record l.fn.content.content { emails = without_all email_number (take l.number-index l.numbers) l.fn.content.content.emails };
  spare : l.fn.content.spare ≤ l.content.spare;
  email_spare : l.fn.content.email_spare ≤ l.content.email_spare;
}

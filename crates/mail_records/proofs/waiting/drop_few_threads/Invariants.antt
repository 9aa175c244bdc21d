use Rattle.std.proofs.Common.{◌≡◌, ◌≤◌, take}
use Rattle.mail_records.specs.Contents.{thread_number}
use Rattle.mail_records.specs.Tables.{without_all}
use Rattle.mail_records.proofs.waiting.drop_few_threads.Given as goal

abbrev pub invariant-loop-number : goal.invariant-loop-number
invariant-loop-number l = record {
  content : l.content.content ≡ record l.fn.content.content { threads = without_all thread_number (take l.number-index l.numbers) l.fn.content.content.threads };
  spare : l.fn.content.spare ≤ l.content.spare;
  email_spare : l.fn.content.email_spare ≤ l.content.email_spare;
}

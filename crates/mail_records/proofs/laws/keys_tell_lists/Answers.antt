use Rattle.mail_records.specs.Contents.{email_number, mailbox_number}
use Rattle.mail_records.proofs.Unique.{AreKeys-unique}
use Rattle.mail_records.proofs.laws.keys_tell_lists.Goals as goal

pub returns : goal.returns
returns c = record {
  mailboxes = λ test keys rows xs ys a b. AreKeys-unique test mailbox_number keys rows xs ys a b;
  emails = λ test keys rows xs ys a b. AreKeys-unique test email_number keys rows xs ys a b;
}

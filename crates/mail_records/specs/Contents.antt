-- What an account holds at one position: a finite map of each kind of record, and the next number
-- of each.
use Rattle.std.specs.Prelude.{◌≡◌, ℕ, ◌≤◌, Bool, List, [], Option, is_some}
use Rattle.mail_records.specs.Tables.{lookup, IsTable, IsNumbered}
use Rattle.mail_records.specs.declared.records.Mailbox.{Mailbox}
use Rattle.mail_records.specs.declared.records.Email.{Email}
use Rattle.mail_records.specs.declared.records.Thread.{Thread}
use Rattle.mail_records.specs.declared.entries.EmailBlob.{EmailBlob}
use Rattle.jm_base.specs.declared.identifiers.Kind.{Kind}
use Rattle.jm_base.specs.declared.identifiers.Kind.TheVariants.{Mailbox as OfMailbox, Email as OfEmail, Thread as OfThread}

-- The records of each kind in number order, and the next number of each kind. A number is never
-- used again.
pub record Content : Type 0 where
  pub mailboxes : List Mailbox
  pub emails : List Email
  pub threads : List Thread
  pub next_mailbox : ℕ
  pub next_email : ℕ
  pub next_thread : ℕ

-- a content, for how many edits there is room, and how many of them may put an email
pub record Held : Type 0 where
  pub content : Content
  pub spare : ℕ
  pub email_spare : ℕ

-- no record, and the first number of each kind is 1
abbrev pub empty_content : Content
empty_content = record {
  mailboxes = [];
  emails = [];
  threads = [];
  next_mailbox = 1;
  next_email = 1;
  next_thread = 1;
}

-- the number of a mailbox, of an email and of a thread
abbrev pub mailbox_number : Mailbox → ℕ
mailbox_number m = m.number

abbrev pub email_number : Email → ℕ
email_number e = e.number

abbrev pub thread_number : Thread → ℕ
thread_number t = t.number

-- the number of an email, and that of the blob that is its message
abbrev pub blob_of : Email → EmailBlob
blob_of e = record { email = e.number; blob = e.blob }

-- the mailbox, the email and the thread of a number
abbrev pub mailbox_at : Content → ℕ → Option Mailbox
mailbox_at c n = lookup mailbox_number n c.mailboxes

abbrev pub email_at : Content → ℕ → Option Email
email_at c n = lookup email_number n c.emails

abbrev pub thread_at : Content → ℕ → Option Thread
thread_at c n = lookup thread_number n c.threads

-- whether there is a record of this kind and number
abbrev pub is_present : Content → Kind → ℕ → Bool
is_present c OfMailbox n = is_some (mailbox_at c n)
is_present c OfEmail n = is_some (email_at c n)
is_present c OfThread n = is_some (thread_at c n)

-- the next number of a kind
abbrev pub next_of : Content → Kind → ℕ
next_of c OfMailbox = c.next_mailbox
next_of c OfEmail = c.next_email
next_of c OfThread = c.next_thread

-- the records of a kind are the same
abbrev pub SameRecords : Kind → Content → Content → Type 0
SameRecords OfMailbox c d = c.mailboxes ≡ d.mailboxes
SameRecords OfEmail c d = c.emails ≡ d.emails
SameRecords OfThread c d = c.threads ≡ d.threads

-- each list is in number order
pub record AreTables (c : Content) : Type 0 where
  pub mailboxes : IsTable mailbox_number c.mailboxes
  pub emails : IsTable email_number c.emails
  pub threads : IsTable thread_number c.threads

-- each record's number is from 1 and below its kind's next number
pub record AreNumbered (c : Content) : Type 0 where
  pub mailboxes : IsNumbered mailbox_number c.mailboxes c.next_mailbox
  pub emails : IsNumbered email_number c.emails c.next_email
  pub threads : IsNumbered thread_number c.threads c.next_thread

-- each next number is at most n
pub record NextAtMost (n : ℕ) (c : Content) : Type 0 where
  pub mailbox : c.next_mailbox ≤ n
  pub email : c.next_email ≤ n
  pub thread : c.next_thread ≤ n

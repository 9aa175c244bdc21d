-- What a filter is asked about: an email with its thread and its message, or a mailbox.
use Rattle.std.specs.Prelude.{ℕ, List, filter, ◌==◌, Option, option_map}
use Rattle.mail_records.specs.Contents.{email_number}
use Rattle.mail_records.specs.Tables.{lookup}
use Rattle.mail_records.specs.declared.records.Mailbox.{Mailbox}
use Rattle.mail_records.specs.declared.records.Email.{Email}
use Rattle.filter_terms.specs.Texts.{MessageTexts}

-- the emails of a thread: those that name it, whatever the list of the Thread record
abbrev pub of_thread : ℕ → List Email → List Email
of_thread t emails = filter (λ e. e.thread == t) emails

-- an email and the emails of its thread, itself among them: all that a query looks at but texts
pub record EmailInThread : Type 0 where
  pub email : Email
  pub thread : List Email

abbrev pub email_in_thread : List Email → Email → EmailInThread
email_in_thread emails e = record { email = e; thread = of_thread e.thread emails }

-- the email of a number with its thread, if it is there
abbrev pub email_in_thread_at : List Email → ℕ → Option EmailInThread
email_in_thread_at emails n = option_map (email_in_thread emails) (lookup email_number n emails)

-- A filter is asked about an email, with the texts of each blob, or about a mailbox.
pub data Target : Type 0 where
  AnEmail : (texts : ℕ → MessageTexts) → (email : EmailInThread) → Target
  AMailbox : (mailbox : Mailbox) → Target

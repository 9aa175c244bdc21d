-- A content with edits laid over it: each of its records is that of its last edit, or that of the
-- content.
use Rattle.std.specs.Prelude.{ℕ, List, [], ◌∷◌, ◌++◌, Option, Some, None, if◌then◌else◌}
use Rattle.std.specs.Option.{option_or}
use Rattle.mail_records.specs.Contents.{email_number}
use Rattle.mail_records.specs.Edits.{id_of}
use Rattle.mail_records.specs.States.{is_id}
use Rattle.mail_records.specs.Tables.{lookup}
use Rattle.mail_records.specs.declared.records.Mailbox.{Mailbox}
use Rattle.mail_records.specs.declared.records.Email.{Email}
use Rattle.mail_records.specs.declared.records.Thread.{Thread}
use Rattle.mail_records.specs.declared.edits.Edit.{Edit}
use Rattle.mail_records.specs.declared.edits.Edit.TheVariants.{PutMailbox, PutEmail, DropEmail, PutThread}
use Rattle.jm_base.specs.declared.identifiers.Kind.{Kind}
use Rattle.mail_counts.specs.Touched.{is_one_of}

-- the edit, if it is of the record of this kind and number
abbrev pub if_of : Kind → ℕ → Edit → Option Edit
if_of kind n e = if is_id kind n (id_of e) then Some e else None

-- the last edit of the record of this kind and number
abbrev pub last_edit : Kind → ℕ → List Edit → Option Edit
last_edit kind n [] = None
last_edit kind n (e ∷ es) = option_or (last_edit kind n es) (if_of kind n e)

-- the mailbox, the email and the thread that an edit puts
abbrev pub mailbox_put : Edit → Option Mailbox
mailbox_put (PutMailbox item was counts) = Some item
mailbox_put _ = None

abbrev pub email_put : Edit → Option Email
email_put (PutEmail item was) = Some item
email_put _ = None

abbrev pub thread_put : Edit → Option Thread
thread_put (PutThread item was) = Some item
thread_put _ = None

-- the record that the last edit leaves, or that was there before
abbrev pub laid_over : {R : Type 0} → (Edit → Option R) → Option Edit → Option R → Option R
laid_over put None before = before
laid_over put (Some e) before = put e

-- the emails that edits name
abbrev pub emails_named : List Edit → List ℕ
emails_named [] = []
emails_named (PutEmail item was ∷ es) = item.number ∷ emails_named es
emails_named (DropEmail number thread ∷ es) = number ∷ emails_named es
emails_named (_ ∷ es) = emails_named es

-- the record of a number, if there is one, as `f` lists it
abbrev pub listed_at : {R B : Type 0} → (R → List B) → Option R → List B
listed_at f None = []
listed_at f (Some r) = f r

-- what `f` lists of the records of these numbers
abbrev pub all_listed : {R B : Type 0} → (R → ℕ) → (R → List B) → List R → List ℕ → List B
all_listed number f rows [] = []
all_listed number f rows (n ∷ ns) =
    listed_at f (lookup number n rows) ++ all_listed number f rows ns

-- the email, if it is of one of these threads
abbrev pub if_of_threads : List ℕ → Email → List Email
if_of_threads threads e = if is_one_of threads e.thread then e ∷ [] else []

-- the emails of these numbers that are of these threads
abbrev pub emails_among : List ℕ → List Email → List ℕ → List Email
emails_among threads emails numbers = all_listed email_number (if_of_threads threads) emails numbers

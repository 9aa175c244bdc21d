-- What an edit names, what it makes of a content, and when it fits one.
use Rattle.std.specs.Prelude.{◌≡◌, ℕ, ◌+◌, ◌^◌, ◌<◌, ◌≤◌, Bool, true, false, if◌then◌else◌, List, [], ◌∷◌, length, Option, Some, None, is_some, ⊤}
use Rattle.mail_records.specs.Tables.{put, without}
use Rattle.mail_records.specs.Contents.{Content, mailbox_number, email_number, thread_number, mailbox_at, email_at, thread_at, next_of}
use Rattle.mail_records.specs.declared.records.Email.{Email}
use Rattle.mail_records.specs.declared.edits.Edit.{Edit}
use Rattle.mail_records.specs.declared.edits.Edit.TheVariants.{PutMailbox, DropMailbox, PutEmail, DropEmail, PutThread, DropThread}
use Rattle.jm_base.specs.declared.identifiers.Kind.{Kind}
use Rattle.jm_base.specs.declared.identifiers.Kind.TheVariants.{Mailbox as OfMailbox, Email as OfEmail, Thread as OfThread}
use Rattle.jm_base.specs.declared.identifiers.Id.{Id}
use Rattle.jm_base.specs.declared.limits.TheConstants.{MAX_MAILBOXES_PER_EMAIL}
use Rattle.mail_records.specs.declared.limits.TheConstants.{MAX_LINKS_PER_EMAIL}

-- the record that an edit puts or drops
abbrev pub id_of : Edit → Id
id_of (PutMailbox item was counts) = record { kind = OfMailbox; number = item.number }
id_of (DropMailbox number) = record { kind = OfMailbox; number = number }
id_of (PutEmail item was) = record { kind = OfEmail; number = item.number }
id_of (DropEmail number thread) = record { kind = OfEmail; number = number }
id_of (PutThread item was) = record { kind = OfThread; number = item.number }
id_of (DropThread number) = record { kind = OfThread; number = number }

-- the kind of record that an edit changes
abbrev pub kind_of : Edit → Kind
kind_of e = (id_of e).kind

-- the thread that an edit names for its email
abbrev pub named_thread : Edit → Option ℕ
named_thread (PutEmail item was) = Some item.thread
named_thread (DropEmail number thread) = Some thread
named_thread _ = None

-- the next number of a kind after a put: a new record takes the next one
abbrev pub next_after : Bool → ℕ → ℕ → ℕ
next_after was number next = if was then next else number + 1

-- the content after an edit
abbrev pub after_edit : Content → Edit → Content
after_edit c (PutMailbox item was counts) =
    record c {
      mailboxes = put mailbox_number item c.mailboxes;
      next_mailbox = next_after was item.number c.next_mailbox;
    }
after_edit c (DropMailbox number) =
    record c { mailboxes = without mailbox_number number c.mailboxes }
after_edit c (PutEmail item was) =
    record c {
      emails = put email_number item c.emails;
      next_email = next_after was item.number c.next_email;
    }
after_edit c (DropEmail number thread) = record c { emails = without email_number number c.emails }
after_edit c (PutThread item was) =
    record c {
      threads = put thread_number item c.threads;
      next_thread = next_after was item.number c.next_thread;
    }
after_edit c (DropThread number) = record c { threads = without thread_number number c.threads }

-- the content after edits, one after the other
abbrev pub after_edits : Content → List Edit → Content
after_edits c [] = c
after_edits c (e ∷ es) = after_edits (after_edit c e) es

-- `was` says whether the record is there, and a new record has the next number
abbrev pub PutFits : Bool → Bool → ℕ → ℕ → Type 0
PutFits present was number next = (was ≡ present) × (was ≡ false → number ≡ next)

-- An edit fits the content before it: its `was` is right, a new record has its kind's next number,
-- and a record that is dropped is there, an email with the thread that the edit names.
abbrev pub Fits : Content → Edit → Type 0
Fits c (PutMailbox item was counts) =
    PutFits (is_some (mailbox_at c item.number)) was item.number c.next_mailbox
Fits c (DropMailbox number) = is_some (mailbox_at c number) ≡ true
Fits c (PutEmail item was) = PutFits (is_some (email_at c item.number)) was item.number c.next_email
Fits c (DropEmail number thread) = (x : Email) × (email_at c number ≡ Some x) × (x.thread ≡ thread)
Fits c (PutThread item was) =
    PutFits (is_some (thread_at c item.number)) was item.number c.next_thread
Fits c (DropThread number) = is_some (thread_at c number) ≡ true

-- each edit fits the content before it
abbrev pub AllFit : Content → List Edit → Type 0
AllFit c [] = ⊤
AllFit c (e ∷ es) = Fits c e × AllFit (after_edit c e) es

-- an email that replaces one keeps its thread
abbrev pub KeepsThread : Content → Edit → Type 0
KeepsThread c (PutEmail item was) =
    (x : Email) → email_at c item.number ≡ Some x → x.thread ≡ item.thread
KeepsThread c _ = ⊤

-- each edit keeps the thread of its email
abbrev pub AllKeepThread : Content → List Edit → Type 0
AllKeepThread c [] = ⊤
AllKeepThread c (e ∷ es) = KeepsThread c e × AllKeepThread (after_edit c e) es

-- an email that is put is within the limits of mailboxes and links
abbrev pub IsSmall : Edit → Type 0
IsSmall (PutEmail item was) =
    (length item.mailboxes ≤ MAX_MAILBOXES_PER_EMAIL)
    × (length item.summary.links ≤ MAX_LINKS_PER_EMAIL)
IsSmall _ = ⊤

-- how many emails an edit puts
abbrev pub puts_of : Edit → ℕ
puts_of (PutEmail item was) = 1
puts_of _ = 0

-- how many of these edits put an email
abbrev pub email_puts : List Edit → ℕ
email_puts [] = 0
email_puts (e ∷ es) = puts_of e + email_puts es

-- there is a 64-bit number after the next one of the edit's kind
abbrev pub HasNext : Content → Edit → Type 0
HasNext c e = next_of c (kind_of e) + 1 < 2 ^ 64

-- there are 64-bit numbers after n new records of each kind
pub record HasNumbers (n : ℕ) (c : Content) : Type 0 where
  pub mailbox : c.next_mailbox + n < 2 ^ 64
  pub email : c.next_email + n < 2 ^ 64
  pub thread : c.next_thread + n < 2 ^ 64

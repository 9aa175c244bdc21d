-- The one encoding of each commit, as bytes (the format is our own).
use Rattle.std.specs.Prelude.{ℕ, ◌+◌, ◌-◌, Bool, true, false, List, [], ◌∷◌, ◌++◌, length, Option, Some, None, ℤ, pos, negsuc}
use Rattle.std.specs.List.{flat_map}
use Rattle.std.specs.Int.{w64, to_be_bytes}
use Rattle.jm_base.specs.declared.identifiers.UtcDate.{UtcDate}
use Rattle.mail_records.specs.declared.records.Summary.{Summary}
use Rattle.mail_records.specs.declared.records.Mailbox.{Mailbox}
use Rattle.mail_records.specs.declared.records.Email.{Email}
use Rattle.mail_records.specs.declared.records.Thread.{Thread}
use Rattle.mail_records.specs.declared.edits.Edit.{Edit}
use Rattle.mail_records.specs.declared.edits.Edit.TheVariants.{PutMailbox, DropMailbox, PutEmail, DropEmail, PutThread, DropThread}
use Rattle.mail_records.specs.declared.edits.Commit.{Commit}
use Rattle.record_codec.specs.declared.write_fields.TheConstants.{SECONDS_BEFORE_1970}

-- a number: eight bytes, the big end first
unfoldable pub number : ℕ → List ℕ
number n = to_be_bytes w64 n

-- a text or a blob: its length, and its bytes
abbrev pub blob : List ℕ → List ℕ
blob bytes = number (length bytes) ++ bytes

-- a list: its count, and its items
abbrev pub listed : {A : Type 0} → (A → List ℕ) → List A → List ℕ
listed item items = number (length items) ++ flat_map item items

-- a truth value: the byte 0 or 1
abbrev pub truth : Bool → List ℕ
truth false = 0 ∷ []
truth true = 1 ∷ []

-- an optional value: the byte 0, or 1 and the value
abbrev pub optional : {A : Type 0} → (A → List ℕ) → Option A → List ℕ
optional value None = 0 ∷ []
optional value (Some x) = 1 ∷ value x

-- the seconds of a date since 0001-01-01T00:00:00Z, from those since 1970
abbrev pub since_year_one : ℤ → ℕ
since_year_one (pos n) = n + SECONDS_BEFORE_1970
since_year_one (negsuc n) = SECONDS_BEFORE_1970 - 1 - n

-- a date: its seconds since the beginning of the year 1
abbrev pub date : UtcDate → List ℕ
date d = number (since_year_one d.seconds)

abbrev pub summary : Summary → List ℕ
summary s = listed blob s.links ++ (blob s.subject
    ++ (blob s.from ++ (blob s.to ++ (optional date s.sent ++ truth s.attachment))))

-- whether a mailbox is subscribed, and its counts
abbrev pub subscribed_and_counts : Mailbox → List ℕ
subscribed_and_counts m = truth m.subscribed ++ (number m.total_emails
    ++ (number m.unread_emails ++ (number m.total_threads ++ number m.unread_threads)))

abbrev pub mailbox : Mailbox → List ℕ
mailbox m = number m.number ++ (blob m.name ++ (optional number m.parent
    ++ (optional blob m.role ++ (number m.sort_order ++ subscribed_and_counts m))))

-- the fields of an email that its message decides
abbrev pub message : Email → List ℕ
message e = number e.size ++ (date e.received ++ summary e.summary)

abbrev pub email : Email → List ℕ
email e = number e.number ++ (number e.thread
    ++ (number e.blob ++ (listed number e.mailboxes ++ (listed blob e.keywords ++ message e))))

abbrev pub thread : Thread → List ℕ
thread t = number t.number ++ listed number t.emails

-- an edit: its tag, from 1 to 6, and its fields
abbrev pub edit : Edit → List ℕ
edit (PutMailbox item was counts) = 1 ∷ (mailbox item ++ (truth was ++ truth counts))
edit (DropMailbox n) = 2 ∷ number n
edit (PutEmail item was) = 3 ∷ (email item ++ truth was)
edit (DropEmail n t) = 4 ∷ (number n ++ number t)
edit (PutThread item was) = 5 ∷ (thread item ++ truth was)
edit (DropThread n) = 6 ∷ number n

-- a commit: the byte 1, its stamp, its blobs and its edits
abbrev pub encoding : Commit → List ℕ
encoding c = 1 ∷ (number c.stamp.pass ++ (number c.stamp.serial
    ++ (listed blob c.blobs ++ listed edit c.edits)))

-- The range of the numbers in a commit. A commit in memory is always in it.
use Rattle.std.specs.Prelude.{ℕ, ◌<◌, ◌^◌, List, length}
use Rattle.std.specs.List.{AllByRecursion}
use Rattle.std.specs.Option.{ForSome}
use Rattle.mail_records.specs.declared.records.Summary.{Summary}
use Rattle.mail_records.specs.declared.records.Mailbox.{Mailbox}
use Rattle.mail_records.specs.declared.records.Email.{Email}
use Rattle.mail_records.specs.declared.records.Thread.{Thread}
use Rattle.mail_records.specs.declared.edits.Edit.{Edit}
use Rattle.mail_records.specs.declared.edits.Edit.TheVariants.{PutMailbox, DropMailbox, PutEmail, DropEmail, PutThread, DropThread}
use Rattle.mail_records.specs.declared.edits.Commit.{Commit}

-- a number that fits in 64 bits
abbrev pub FitsIn64Bits : ℕ → Type 0
FitsIn64Bits n = n < 2 ^ 64

-- a list whose length fits in 64 bits
abbrev pub LengthFitsIn64Bits : {A : Type 0} → List A → Type 0
LengthFitsIn64Bits items = length items < 2 ^ 64

-- the length of the list fits in 64 bits, and each of its items is so
abbrev pub AreAll : {A : Type 0} → (A → Type 0) → List A → Type 0
AreAll P items = LengthFitsIn64Bits items × AllByRecursion P items

pub record IsWideSummary (s : Summary) : Type 0 where
  pub links : AreAll LengthFitsIn64Bits s.links
  pub subject : LengthFitsIn64Bits s.subject
  pub from : LengthFitsIn64Bits s.from
  pub to : LengthFitsIn64Bits s.to

pub record IsWideMailbox (m : Mailbox) : Type 0 where
  pub number : FitsIn64Bits m.number
  pub name : LengthFitsIn64Bits m.name
  pub parent : ForSome m.parent FitsIn64Bits
  pub role : ForSome m.role LengthFitsIn64Bits
  pub sort_order : FitsIn64Bits m.sort_order
  pub total_emails : FitsIn64Bits m.total_emails
  pub unread_emails : FitsIn64Bits m.unread_emails
  pub total_threads : FitsIn64Bits m.total_threads
  pub unread_threads : FitsIn64Bits m.unread_threads

pub record IsWideEmail (e : Email) : Type 0 where
  pub number : FitsIn64Bits e.number
  pub thread : FitsIn64Bits e.thread
  pub blob : FitsIn64Bits e.blob
  pub mailboxes : AreAll FitsIn64Bits e.mailboxes
  pub keywords : AreAll LengthFitsIn64Bits e.keywords
  pub size : FitsIn64Bits e.size
  pub summary : IsWideSummary e.summary

abbrev pub IsWideThread : Thread → Type 0
IsWideThread t = FitsIn64Bits t.number × AreAll FitsIn64Bits t.emails

abbrev pub IsWideEdit : Edit → Type 0
IsWideEdit (PutMailbox item was counts) = IsWideMailbox item
IsWideEdit (DropMailbox n) = FitsIn64Bits n
IsWideEdit (PutEmail item was) = IsWideEmail item
IsWideEdit (DropEmail n t) = FitsIn64Bits n × FitsIn64Bits t
IsWideEdit (PutThread item was) = IsWideThread item
IsWideEdit (DropThread n) = FitsIn64Bits n

pub record IsWide (c : Commit) : Type 0 where
  pub pass : FitsIn64Bits c.stamp.pass
  pub serial : FitsIn64Bits c.stamp.serial
  pub blobs : AreAll LengthFitsIn64Bits c.blobs
  pub edits : AreAll IsWideEdit c.edits

-- Which commits have an encoding, and the byte offset at which bytes are none.
use Rattle.std.specs.Prelude.{◌≡◌, ℕ, suc, ◌<◌, ◌≤◌, List, ◌++◌, length, take, Result, Ok, Err, ⊤}
use Rattle.std.specs.List.{AllByRecursion}
use Rattle.std.specs.Option.{ForSome}
use Rattle.std.specs.Str.{IsUtf8}
use Rattle.mail_records.specs.declared.records.Summary.{Summary}
use Rattle.mail_records.specs.declared.records.Mailbox.{Mailbox}
use Rattle.mail_records.specs.declared.records.Email.{Email}
use Rattle.mail_records.specs.declared.edits.Edit.{Edit}
use Rattle.mail_records.specs.declared.edits.Edit.TheVariants.{PutMailbox, PutEmail}
use Rattle.mail_records.specs.declared.edits.Commit.{Commit}
use Rattle.mail_records.specs.Commits.{IsFormed}
use Rattle.record_codec.specs.declared.faults.CodecFault.{CodecFault}
use Rattle.record_codec.specs.declared.faults.CodecFault.TheVariants.{NotACommit, NoMemory}
use Rattle.record_codec.specs.Encoding.{encoding}
use Rattle.record_codec.specs.Widths.{IsWide}

-- a list of bytes
abbrev pub AreBytes : List ℕ → Type 0
AreBytes bytes = AllByRecursion (λ b. b < 256) bytes

-- Texts are UTF-8, and blobs are bytes. In memory they always are, since no other can be made.
abbrev pub HasTextsInSummary : Summary → Type 0
HasTextsInSummary s = AllByRecursion IsUtf8 s.links × IsUtf8 s.subject × IsUtf8 s.from × IsUtf8 s.to

abbrev pub HasTextsInMailbox : Mailbox → Type 0
HasTextsInMailbox m = IsUtf8 m.name × ForSome m.role IsUtf8

abbrev pub HasTextsInEmail : Email → Type 0
HasTextsInEmail e = AllByRecursion IsUtf8 e.keywords × HasTextsInSummary e.summary

abbrev pub HasTextsInEdit : Edit → Type 0
HasTextsInEdit (PutMailbox item was counts) = HasTextsInMailbox item
HasTextsInEdit (PutEmail item was) = HasTextsInEmail item
HasTextsInEdit _ = ⊤

-- A commit that has an encoding: its numbers and lengths are of 64 bits; the mailboxes, keywords
-- and links of each email that it puts rise strictly, and its dates are of the years 1 to 9999; its
-- texts are UTF-8 and its blobs bytes.
pub record HasEncoding (c : Commit) : Type 0 where
  pub wide : IsWide c
  pub formed : IsFormed c
  pub texts : AllByRecursion HasTextsInEdit c.edits
  pub blobs : AllByRecursion AreBytes c.blobs

-- the bytes are the encoding of the commit
pub record IsEncodingOf (bytes : List ℕ) (c : Commit) : Type 0 where
  pub has : HasEncoding c
  pub is : bytes ≡ encoding c

-- some commit's encoding begins so, or is so
abbrev pub Begins : List ℕ → Type 0
Begins front = (c : Commit) × (rest : List ℕ) × IsEncodingOf (front ++ rest) c

-- The bytes are no commit's encoding, and this is the byte offset of the first byte at which no
-- commit's encoding continues as they do: some commit's encoding begins with the bytes before it,
-- and none with these and the byte there. Where the bytes end early it is their length.
pub record IsFaultOffset (bytes : List ℕ) (place : ℕ) : Type 0 where
  pub within : place ≤ length bytes
  pub begins : Begins (take place bytes)
  pub goes_no_further : place < length bytes → ¬ Begins (take (suc place) bytes)
  pub is_none : (c : Commit) → ¬ IsEncodingOf bytes c

-- why bytes are not decoded: the byte offset at which they are no commit's encoding, or out of
-- memory
abbrev pub IsRefused : List ℕ → CodecFault → Type 0
IsRefused bytes (NotACommit place) = IsFaultOffset bytes place
IsRefused bytes NoMemory = ⊤

-- what `decode` answers: the one commit whose encoding the bytes are, or why not
abbrev pub IsRead : List ℕ → Result Commit CodecFault → Type 0
IsRead bytes (Ok c) = IsEncodingOf bytes c
IsRead bytes (Err fault) = IsRefused bytes fault

-- Edits that leave emails as they are, and what they leave of threads and counts.
use Rattle.std.specs.Prelude.{◌≡◌, false, List, [], ◌∷◌, Some, ⊤}
use Rattle.std.specs.List.{AllByRecursion}
use Rattle.mail_records.specs.Contents.{Content, mailbox_at}
use Rattle.mail_records.specs.Edits.{kind_of, after_edit}
use Rattle.mail_records.specs.States.{is_kind}
use Rattle.mail_records.specs.declared.edits.Edit.{Edit}
use Rattle.mail_records.specs.declared.edits.Edit.TheVariants.{PutMailbox}
use Rattle.mail_records.specs.declared.records.Mailbox.{Mailbox}
use Rattle.jm_base.specs.declared.identifiers.Kind.TheVariants.{Mailbox as OfMailbox, Email as OfEmail}
use Rattle.mail_counts.specs.Counts.{HasCounts, HasNoCounts, SameCounts}

-- the edit puts or drops a mailbox
abbrev pub IsOfMailbox : Edit → Type 0
IsOfMailbox e = kind_of e ≡ OfMailbox

-- the edit neither puts nor drops an email
abbrev pub LeavesEmails : Edit → Type 0
LeavesEmails e = is_kind OfEmail (kind_of e) ≡ false

-- a mailbox that is put has counts 0 where it is new, and else the counts of the one that was there
abbrev pub KeepsCounts : Content → Edit → Type 0
KeepsCounts c (PutMailbox item was counts) = (was ≡ false → HasNoCounts item)
    × ((m : Mailbox) → mailbox_at c item.number ≡ Some m → SameCounts m item)
KeepsCounts c _ = ⊤

-- each edit keeps the counts of the content before it
abbrev pub AllKeepCounts : Content → List Edit → Type 0
AllKeepCounts c [] = ⊤
AllKeepCounts c (e ∷ es) = KeepsCounts c e × AllKeepCounts (after_edit c e) es

-- each mailbox has the counts of the emails
abbrev pub AreCounted : Content → Type 0
AreCounted c = AllByRecursion (HasCounts c.emails) c.mailboxes

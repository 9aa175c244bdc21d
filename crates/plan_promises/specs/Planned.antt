-- What the plan of a set, an import or a copy promises of its edits, so that they leave a valid
-- account (RFC 8620, 5.3; RFC 8621, 4), and `updatedProperties` of Mailbox/changes is right (RFC
-- 8621, 2.2). A plan of mailboxes that leaves emails as they are promises that its edits fit, leave
-- the content tidy, and say rightly which puts change only counts, and nothing else
-- (`planned_mailboxes`). One that changes emails promises the rest:
--
-- * an email that is there keeps its message: a put of it changes its mailboxes and keywords alone;
-- * an email that is new has its message among the account's blobs and those of the plan;
-- * each email that is put is filed: its mailboxes are few, and they and its keywords rise.
use Rattle.std.specs.Prelude.{◌≡◌, ℕ, ◌≤◌, false, List, [], ◌∷◌, length, Some, ⊤}
use Rattle.std.specs.List.{AllByRecursion}
use Rattle.jm_base.specs.UtcDates.{IsUtcDate}
use Rattle.mail_records.specs.Commits.{NumbersRise, TextsRise}
use Rattle.mail_records.specs.Contents.{Content, email_at}
use Rattle.mail_records.specs.Edits.{AllFit, after_edit, after_edits}
use Rattle.jm_base.specs.declared.limits.TheConstants.{MAX_MAILBOXES_PER_EMAIL}
use Rattle.mail_records.specs.declared.records.Email.{Email}
use Rattle.mail_records.specs.declared.records.Summary.{Summary}
use Rattle.mail_records.specs.declared.edits.Edit.{Edit}
use Rattle.mail_records.specs.declared.edits.Edit.TheVariants.{PutEmail}
use Rattle.mail_counts.specs.CountsFlag.{AreCountsFlagsRight}
use Rattle.mail_counts.specs.Tidy.{IsTidy}
use Rattle.plan_promises.specs.Messages.{HasMessage}

-- ---- an email that is there

-- Two records of one email agree in everything but mailboxes and keywords, the only properties of
-- an email that may change (RFC 8621, 4.1.1).
pub record HaveOneMessage (old new : Email) : Type 0 where
  pub number : old.number ≡ new.number
  pub thread : old.thread ≡ new.thread
  pub blob : old.blob ≡ new.blob
  pub size : old.size ≡ new.size
  pub received : old.received ≡ new.received
  pub summary : old.summary ≡ new.summary

-- an email that replaces one keeps its message
abbrev pub KeepsMessage : Content → Edit → Type 0
KeepsMessage c (PutEmail item was) =
    (old : Email) → email_at c item.number ≡ Some old → HaveOneMessage old item
KeepsMessage c _ = ⊤

-- each edit keeps the message of its email
abbrev pub AllKeepMessages : Content → List Edit → Type 0
AllKeepMessages c [] = ⊤
AllKeepMessages c (e ∷ es) = KeepsMessage c e × AllKeepMessages (after_edit c e) es

-- ---- an email that is new

-- its message is among these blobs, and it was received in the years 0001 to 9999
pub record IsDelivered
    (summary : List ℕ → Summary) (blobs : List (List ℕ)) (e : Email) : Type 0 where
  pub message : HasMessage summary blobs e
  pub received : IsUtcDate e.received

-- each email that is put is so
abbrev pub PutsEmail : (Email → Type 0) → Edit → Type 0
PutsEmail P (PutEmail item was) = P item
PutsEmail P _ = ⊤

-- each new email that is put is so
abbrev pub PutsNewEmail : (Email → Type 0) → Edit → Type 0
PutsNewEmail P (PutEmail item false) = P item
PutsNewEmail P _ = ⊤

-- ---- each email that is put

-- an email is filed: in at most `MAX_MAILBOXES_PER_EMAIL` mailboxes, and they and its keywords rise
pub record IsFiled (e : Email) : Type 0 where
  pub few_mailboxes : length e.mailboxes ≤ MAX_MAILBOXES_PER_EMAIL
  pub mailboxes_rise : NumbersRise e.mailboxes
  pub keywords_rise : TextsRise e.keywords

-- ---- a plan

-- What the plan of these edits promises over a content. The blobs are those of the account with
-- those of the plan.
pub record IsPlanned
    (summary : List ℕ → Summary) (blobs : List (List ℕ)) (c : Content) (es : List Edit)
    : Type 0 where
  pub fits : AllFit c es
  pub kept : AllKeepMessages c es
  pub delivered : AllByRecursion (PutsNewEmail (IsDelivered summary blobs)) es
  pub filed : AllByRecursion (PutsEmail IsFiled) es
  pub tidy : IsTidy (after_edits c es)
  pub flags : AreCountsFlagsRight c es

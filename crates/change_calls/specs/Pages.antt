-- What a client may build on pages of changes: how they follow on each other, and that they bring
-- its records up to date (RFC 8620, 5.2).
use Rattle.std.specs.Prelude.{◌≡◌, ℕ, ◌<◌, ◌≤◌, Bool, true, false, ◌||◌, ◌==◌, if◌then◌else◌, List, length, Option, None}
use Rattle.std.specs.List.{list_any}
use Rattle.jm_base.specs.declared.identifiers.Kind.{Kind}
use Rattle.jm_base.specs.declared.identifiers.Kind.TheVariants.{Mailbox as OfMailbox, Email as OfEmail, Thread as OfThread}
use Rattle.mail_records.specs.Contents.{Content, SameRecords, email_at, mailbox_at, thread_at}
use Rattle.mail_records.specs.Histories.{History, content_at, end_of}
use Rattle.mail_records.specs.States.{Reaches}
use Rattle.change_calls.specs.Changes.{created, destroyed, is_within, touched, updated}

-- p is the greatest position, of those from a state to the end, up to which the edits name at most
-- so many records
pub record IsPage (h : History) (kind : Kind) (max : Option ℕ) (from p : ℕ) : Type 0 where
  pub later : from ≤ p
  pub within : p ≤ end_of h
  pub few : is_within max (length (touched h kind from p)) ≡ true
  pub greatest : (k : ℕ) → p < k → k ≤ end_of h
      → is_within max (length (touched h kind from k)) ≡ false

-- the number is among these
abbrev pub has : List ℕ → ℕ → Bool
has numbers n = list_any (λ m. m == n) numbers

-- The record of a number as a client has it after a page: none if it is destroyed, the one where
-- the page ends if it is created or updated, else the one that the client had.
abbrev pub brought : {R : Type 0}
    → History → Kind → ℕ → ℕ → (Content → ℕ → Option R) → ℕ → Option R
brought h kind from upto record_at n =
    if has (destroyed h kind from upto) n then None
    else (if has (created h kind from upto) n || has (updated h kind from upto) n
    then record_at (content_at h upto) n
    else record_at (content_at h from) n)

-- A page brings the records of its kind up to date: those at the one position, without the
-- destroyed ones, with the created and the updated ones as they are at the other position, are
-- those at the other position.
pub record BringsUpToDate (h : History) (from upto : ℕ) : Type 0 where
  pub mailboxes : (n : ℕ)
      → brought h OfMailbox from upto mailbox_at n ≡ mailbox_at (content_at h upto) n
  pub emails : (n : ℕ) → brought h OfEmail from upto email_at n ≡ email_at (content_at h upto) n
  pub threads : (n : ℕ) → brought h OfThread from upto thread_at n ≡ thread_at (content_at h upto) n

-- The next page continues from the new state of a page as from the position where the page ends:
-- both have the same records of the kind, and for every later position the edits of the kind since
-- both name the same records.
pub record GoesOn (h : History) (kind : Kind) (state p : ℕ) : Type 0 where
  pub reached : Reaches h kind state
  pub same : SameRecords kind (content_at h p) (content_at h state)
  pub touched : (k : ℕ) → p ≤ k → touched h kind state k ≡ touched h kind p k

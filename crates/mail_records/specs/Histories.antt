-- The history of an account: a base, and the commits and refusals after it. A position counts the
-- edits of the commits.
use Rattle.std.specs.Prelude.{◌≡◌, ℕ, ◌+◌, ◌-◌, ◌<◌, ◌≤◌, ◌^◌, Bool, true, false, List, [], ◌∷◌, ◌++◌, take, drop, length, map, flat_map, ⊤}
use Rattle.std.specs.List.{AllByRecursion}
use Rattle.mail_records.specs.Commits.{IsFormedEdit, IsFormedEmail}
use Rattle.mail_records.specs.Contents.{Content, empty_content, AreTables, AreNumbered, NextAtMost, next_of}
use Rattle.mail_records.specs.Edits.{id_of, after_edits, AllFit}
use Rattle.mail_records.specs.declared.records.Email.{Email}
use Rattle.mail_records.specs.declared.edits.Edit.{Edit}
use Rattle.mail_records.specs.declared.edits.Edit.TheVariants.{PutEmail, DropEmail}
use Rattle.mail_records.specs.declared.edits.Commit.{Commit}
use Rattle.mail_records.specs.declared.edits.Stamp.{Stamp}
use Rattle.jm_base.specs.declared.identifiers.Id.{Id}
use Rattle.jm_base.specs.declared.identifiers.Kind.{Kind}
use Rattle.jm_base.specs.declared.identifiers.Kind.TheVariants.{Mailbox as OfMailbox, Email as OfEmail, Thread as OfThread}

-- An entry is a commit, or the mark of a change that was refused: its stamp, with no edits and no
-- blobs.
pub data Entry : Type 0 where
  Committed : (commit : Commit) → Entry
  Refused : (stamp : Stamp) → Entry

-- who made an entry
abbrev pub entry_stamp : Entry → Stamp
entry_stamp (Committed commit) = commit.stamp
entry_stamp (Refused stamp) = stamp

-- the pass under which an entry was made
abbrev pub entry_pass : Entry → ℕ
entry_pass e = (entry_stamp e).pass

-- the edits of an entry
abbrev pub entry_edits : Entry → List Edit
entry_edits (Committed commit) = commit.edits
entry_edits (Refused stamp) = []

-- the blobs that an entry brings
abbrev pub entry_blobs : Entry → List (List ℕ)
entry_blobs (Committed commit) = commit.blobs
entry_blobs (Refused stamp) = []

-- the entry is a refusal
abbrev pub is_refused : Entry → Bool
is_refused (Committed commit) = false
is_refused (Refused stamp) = true

-- the commit of an entry, or none
abbrev pub entry_commits : Entry → List Commit
entry_commits (Committed commit) = commit ∷ []
entry_commits (Refused stamp) = []

-- the position of each kind at the floor: that of its last edit before
pub record Floors : Type 0 where
  pub mailbox : ℕ
  pub email : ℕ
  pub thread : ℕ

-- the position of one kind
abbrev pub floor_of : Floors → Kind → ℕ
floor_of floors OfMailbox = floors.mailbox
floor_of floors OfEmail = floors.email
floor_of floors OfThread = floors.thread

-- The position at which it begins and each kind's position there, content and blobs at that
-- position, and the entries since.
pub record History : Type 0 where
  pub floor : ℕ
  pub floors : Floors
  pub base : Content
  pub base_blobs : List (List ℕ)
  pub entries : List Entry

-- nothing has been yet
abbrev pub empty_history : History
empty_history =
    record {
      floor = 0;
      floors = record { mailbox = 0; email = 0; thread = 0 };
      base = empty_content;
      base_blobs = [];
      entries = [];
    }

-- the edits of entries, in order
abbrev pub edits_in : List Entry → List Edit
edits_in entries = flat_map entry_edits entries

-- the blobs of entries, in order
abbrev pub blobs_in : List Entry → List (List ℕ)
blobs_in entries = flat_map entry_blobs entries

-- the commits of entries, in order
abbrev pub commits_in : List Entry → List Commit
commits_in entries = flat_map entry_commits entries

-- the edits of a history: the first one has the position floor + 1
abbrev pub edits_of : History → List Edit
edits_of h = edits_in h.entries

-- the records that its edits name, in order
abbrev pub ids_of : History → List Id
ids_of h = map id_of (edits_of h)

-- the blobs of a history: blob number n is at index n - 1
abbrev pub blobs_of : History → List (List ℕ)
blobs_of h = h.base_blobs ++ blobs_in h.entries

-- the last position
abbrev pub end_of : History → ℕ
end_of h = h.floor + length (edits_of h)

-- the content at a position, from the floor to the end: the base after the edits up to it. Below
-- the floor it is the base.
abbrev pub content_at : History → ℕ → Content
content_at h k = after_edits h.base (take (k - h.floor) (edits_of h))

-- the content at the end
abbrev pub content_of : History → Content
content_of h = after_edits h.base (edits_of h)

-- the edits after a position
abbrev pub edits_after : History → ℕ → List Edit
edits_after h k = drop (k - h.floor) (edits_of h)

-- the edits after one position, up to another
abbrev pub edits_between : History → ℕ → ℕ → List Edit
edits_between h from upto = drop (from - h.floor) (take (upto - h.floor) (edits_of h))

-- the account after its first c entries: the history with these alone
abbrev pub account_after : History → ℕ → History
account_after h c = record h { entries = take c h.entries }

-- the position after the first c entries
abbrev pub end_after : History → ℕ → ℕ
end_after h c = end_of (account_after h c)

-- the blobs after the first c entries
abbrev pub blobs_after : History → ℕ → List (List ℕ)
blobs_after h c = blobs_of (account_after h c)

-- with more entries
abbrev pub grown_by : History → List Entry → History
grown_by h more = record h { entries = h.entries ++ more }

-- with one entry more
abbrev pub grown : History → Entry → History
grown h e = grown_by h (e ∷ [])

-- The greatest floor: half of the positions that a JSON number holds (RFC 8620, 1.3).
abbrev pub max_floor : ℕ
max_floor = 2 ^ 52

-- The greatest last position of an account, and the greatest next number of a kind of record: a
-- floor is at most `max_floor`, and the limit of edits keeps fewer than 2^26 edits after it. It is
-- below 2^53, so that a JSON number holds it (RFC 8620, 1.3).
abbrev pub max_position : ℕ
max_position = max_floor + 2 ^ 26

-- each kind's floor position is at most the floor
pub record FloorsAtMost (floors : Floors) (floor : ℕ) : Type 0 where
  pub mailbox : floors.mailbox ≤ floor
  pub email : floors.email ≤ floor
  pub thread : floors.thread ≤ floor

-- What holds of each history from its beginning on: the floor is at most `max_floor` and each
-- kind's floor position at most the floor, and the base is in number order with each number below
-- its kind's next one, and each next number at most the floor plus 1. Edits that fit keep the
-- base's part: a next number is then at most the last position plus 1.
pub record IsFounded (h : History) : Type 0 where
  pub low : h.floor ≤ max_floor
  pub floors : FloorsAtMost h.floors h.floor
  pub tables : AreTables h.base
  pub numbered : AreNumbered h.base
  pub next : NextAtMost (h.floor + 1) h.base

-- the number is from 1 and below the next number of its kind
abbrev pub IsNamedBelow : Content → Id → Type 0
IsNamedBelow c i = (1 ≤ i.number) × (i.number < next_of c i.kind)

-- the emails of the base are formed, and so is each email that an edit puts
pub record IsFormedHistory (h : History) : Type 0 where
  pub base : AllByRecursion IsFormedEmail h.base.emails
  pub edits : AllByRecursion IsFormedEdit (edits_of h)

-- the thread that the edit names for its email is this one
abbrev pub NamesThread : (ℕ → ℕ) → Edit → Type 0
NamesThread thread_of (PutEmail item was) = thread_of item.number ≡ item.thread
NamesThread thread_of (DropEmail number thread) = thread_of number ≡ thread
NamesThread thread_of _ = ⊤

-- each email is of one thread: its record in the base and all its edits name that one
pub record HasOneThread (h : History) (thread_of : ℕ → ℕ) : Type 0 where
  pub in_base : AllByRecursion (λ (x : Email). thread_of x.number ≡ x.thread) h.base.emails
  pub in_edits : AllByRecursion (NamesThread thread_of) (edits_of h)

-- each edit fits the content before it, and all edits of one email, and the base's record of it,
-- name one thread
pub record IsSound (h : History) : Type 0 where
  pub fits : AllFit h.base (edits_of h)
  pub one_thread : (thread_of : ℕ → ℕ) × HasOneThread h thread_of

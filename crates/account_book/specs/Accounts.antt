-- How an account keeps its history, and what holds of each account.
use Rattle.std.specs.Prelude.{◌≡◌, ◌↔◌, ℕ, ◌≤◌, Bool, IsTrue, true, false, not, if◌then◌else◌, List, [], ◌∷◌, take, drop, filter, length, map}
use Rattle.mail_records.specs.Contents.{Content, NextAtMost}
use Rattle.mail_records.specs.Edits.{AllFit, AllKeepThread}
use Rattle.mail_records.specs.Histories.{History, Entry, Committed, Refused, IsFormedHistory, IsFounded, is_refused, edits_of, content_of, blobs_of, end_of, max_position}
use Rattle.blob_store.specs.Blobs.{AreBlobsFew}
use Rattle.state_log.specs.Logs.{Notes, IsLogOf}
use Rattle.record_codec.specs.Sizes.{capped, edit_bytes}
use Rattle.account_book.specs.declared.entry.Entry.{Entry as KeptEntry}

-- the entry that is kept so, with these blobs
abbrev pub entry_with : KeptEntry → List (List ℕ) → Entry
entry_with e blobs =
    if e.refused
    then Refused e.stamp
    else Committed (record { blobs = blobs; edits = e.edits; stamp = e.stamp })

-- The entries that are kept so. The blobs are in the order of the entries: each entry has as many
-- of them as it counts, and those after them belong to the entries after it.
abbrev pub entries_with : List KeptEntry → List (List ℕ) → List Entry
entries_with [] blobs = []
entries_with (e ∷ es) blobs =
    entry_with e (take e.blobs blobs) ∷ entries_with es (drop e.blobs blobs)

-- what is kept of an entry besides its blobs
abbrev pub kept_entry : Entry → KeptEntry
kept_entry (Committed commit) = record {
  stamp = commit.stamp;
  edits = commit.edits;
  blobs = length commit.blobs;
  refused = false;
}
kept_entry (Refused stamp) = record { stamp = stamp; edits = []; blobs = 0; refused = true }

-- The history that is kept by a log, a base, entries and blobs: so many of the blobs, from the
-- first on, are the base's.
abbrev pub history_of : Notes → Content → ℕ → List KeptEntry → List (List ℕ) → History
history_of log base base_blobs entries blobs = record {
  floor = log.floor;
  floors = log.floors;
  base = base;
  base_blobs = take base_blobs blobs;
  entries = entries_with entries (drop base_blobs blobs);
}

-- Content, log, entries, blobs, the count of the base's blobs, the count of the bytes of edits and
-- the flag that threads are kept are those of the history. The history is founded and formed, its
-- edits fit one after the other, and its blobs are within the limits.
pub record IsAccountOf (h : History) (content : Content) (log : Notes) (entries : List KeptEntry)
    (blobs : List (List ℕ)) (base_blobs bytes : ℕ) (keeps_threads : Bool) : Type 0 where
  pub founded : IsFounded h
  pub formed : IsFormedHistory h
  pub fits : AllFit h.base (edits_of h)
  pub content_is : content ≡ content_of h
  pub log_is : IsLogOf h log
  pub entries_are : entries ≡ map kept_entry h.entries
  pub blobs_are : blobs ≡ blobs_of h
  pub few : AreBlobsFew blobs
  pub base_blobs_are : base_blobs ≡ length h.base_blobs
  pub bytes_are : bytes ≡ capped (edit_bytes (edits_of h))
  pub threads : IsTrue keeps_threads ↔ AllKeepThread h.base (edits_of h)

-- the last position, and the next number of each kind, that a call on an account may meet
pub record IsBounded (h : History) : Type 0 where
  pub end : end_of h ≤ max_position
  pub numbers : NextAtMost max_position (content_of h)

-- the history without its refusals
abbrev pub without_refusals : History → History
without_refusals h = record h { entries = filter (λ (e : Entry). not (is_refused e)) h.entries }

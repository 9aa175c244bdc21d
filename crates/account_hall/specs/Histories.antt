-- The history of an account as a session knows it. A lock shows a session's pass the entries since
-- the account was opened, each with the number of the pass that made it. The account keeps them
-- with passes that are counted from the greatest one of its earlier entries.
use Rattle.std.specs.Prelude.{◌≡◌, ℕ, ◌+◌, List, [], ◌∷◌, ◌++◌, ◌⊎◌, length}
use Rattle.mail_records.specs.Histories.{Entry, History, entry_stamp, grown_by}
use Rattle.mail_records.specs.declared.edits.Stamp.{Stamp}
use Rattle.account_book.specs.Passes.{greatest_pass, named_since, pass_from}
use Rattle.account_lock.specs.Views.{PassFacts}

-- what an account opened with, and then these entries, each with the pass of its number
abbrev pub history_with : History → List Entry → History
history_with opened entries = grown_by opened (named_since opened entries)

-- the stamp of an entry of the pass of this number
abbrev pub stamp_from : History → ℕ → ℕ → Stamp
stamp_from opened number serial =
    record { pass = pass_from (greatest_pass opened.entries) number; serial = serial }

-- how many entries there are with those that the account opened with
abbrev pub count_with : History → List Entry → ℕ
count_with opened entries = length opened.entries + length entries

-- the history that a session has seen
abbrev pub seen_history : PassFacts → History
seen_history k = history_with k.opening k.seen

-- how many entries of it
abbrev pub seen_count : PassFacts → ℕ
seen_count k = count_with k.opening k.seen

-- the stamp of a session's entries in the account
abbrev pub stamp_of : PassFacts → ℕ → Stamp
stamp_of k serial = stamp_from k.opening k.name serial

-- The list stays, or gains one entry, with this number and serial. `before` and `after` count as
-- many entries more.
pub record GainsOne (number serial before after : ℕ) (old new : List Entry) : Type 0 where
  pub entry : Entry
  pub stamp : entry_stamp entry ≡ record { pass = number; serial = serial }
  pub grows : new ≡ old ++ entry ∷ []
  pub next : after ≡ before + 1

pub record GainsNone (before after : ℕ) (old new : List Entry) : Type 0 where
  pub same : new ≡ old
  pub none : after ≡ before

abbrev pub GainsAtMostOne : ℕ → ℕ → ℕ → ℕ → List Entry → List Entry → Type 0
GainsAtMostOne number serial before after old new =
    GainsNone before after old new ⊎ GainsOne number serial before after old new

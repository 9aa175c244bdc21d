-- What the calls make of a pass, and what closing a lock asks and gives.
use Rattle.std.specs.Prelude.{◌≡◌, ◌≢◌, ℕ, ◌+◌, ◌<◌, ◌≤◌, true, false, List, [], ◌∷◌, ◌++◌, length}
use mathlib.Core.Option.{some}
use lib.ListN.{get_elem?}
use Rattle.atomic_table.specs.Seated.{TableId}
use Rattle.mail_records.specs.Histories.{Entry, History}
use Rattle.account_lock.specs.Entries.{under, longer_of}
use Rattle.account_lock.specs.Views.{Ended, PassFacts, no_turn}

-- the root of a lock that was just built
abbrev pub root_of : TableId → ℕ → History → PassFacts
root_of z before opening =
    record {
      lock = z;
      root = true;
      name = 0;
      given = 0;
      before = before;
      opening = opening;
      holds = false;
      last = no_turn;
      seen = [];
      own = [];
      ended = [];
    }

-- the pass that a root splits off: the next name, and what the root has seen
abbrev pub split_off : PassFacts → PassFacts
split_off k =
    record {
      lock = k.lock;
      root = false;
      name = k.given + 1;
      given = 0;
      before = k.before;
      opening = k.opening;
      holds = false;
      last = no_turn;
      seen = k.seen;
      own = [];
      ended = [];
    }

-- the pass after another was joined: the longer of what they have seen, and one more ended name
-- with those of the other
abbrev pub taken_in : PassFacts → PassFacts → PassFacts
taken_in k other = record k {
  seen = longer_of k.seen other.seen;
  ended = k.ended ++ record { name = other.name; entries = other.own } ∷ other.ended;
}

-- as many names have ended as were given
abbrev pub IsLast : PassFacts → Type 0
IsLast k = length k.ended ≡ k.given

-- the entries of each ended name are exactly those kept with it
abbrev pub KeepsEnded : PassFacts → List Entry → Type 0
KeepsEnded k log = (i : ℕ) (e : Ended) → get_elem? k.ended i ≡ some e → under e.name log ≡ e.entries

-- each name that was given is an ended one
abbrev pub HasEndedAll : PassFacts → Type 0
HasEndedAll k = (n : ℕ) → 0 < n → n ≤ k.given
    → (i : ℕ) × (e : Ended) × (get_elem? k.ended i ≡ some e) × (e.name ≡ n)

-- each entry of the list has an ended name
abbrev pub HasNoOthers : PassFacts → List Entry → Type 0
HasNoOthers k log = (n : ℕ) → ((i : ℕ) (e : Ended) → get_elem? k.ended i ≡ some e → e.name ≢ n)
    → under n log ≡ []

-- What each atomic step shows the thread that makes it: the seat before, the number that the step
-- found in its word, the seat after. A seat is a view and the slots that are out with it, each with
-- its value.
use Rattle.std.specs.Prelude.{◌≡◌, ◌≢◌, ℕ, ◌+◌, ◌%◌, ◌^◌, ◌≤◌, true, false, List, [], ◌∷◌, length, Option, Some, None}
use Rattle.atomic_table.specs.Table.{Me}
use Rattle.atomic_table.specs.Seated.{TableId}
use Rattle.mail_records.specs.Histories.{Entry}
use Rattle.account_lock.specs.Entries.{under, StartsWith}
use Rattle.account_lock.specs.Views.{Origin, View}
use Rattle.account_lock.specs.Rule.{Knows}

-- the table of a lock has three words and one slot
abbrev pub IsLockTable : TableId → Type 0
IsLockTable z = (z.words ≡ 3) × (z.slots ≡ 1)

-- the seat of a thread in the table: its view, and the slots that are out with it
abbrev pub SeatOf : Type 0 → Type 0
SeatOf Y = Me (Option Y) View

module _ {Y : Type 0} where
  -- a ticket was drawn: the number that the ticket word showed
  abbrev pub drew : SeatOf Y → ℕ → SeatOf Y → Type 0
  drew m n m' = (k : ℕ) × (m' ≡ (record m.0 { waits = true; ticket = k }, m.1)) × (n ≡ k % 2 ^ 64)

  -- a ticket was drawn if the ticket word showed the number expected, and else nothing changed
  abbrev pub tried : ℕ → SeatOf Y → ℕ → SeatOf Y → Type 0
  tried expected m n m' = (n ≡ expected → drew m n m') × (n ≢ expected → m' ≡ m)

  -- the slot was given back empty, and the caller has the value
  abbrev pub left_empty : SeatOf Y → ℕ → SeatOf Y → Type 0
  left_empty m n m' = m' ≡ (record m.0 { away = true }, [])

  -- the empty slot was taken, so that the value can be put into it
  abbrev pub took_empty : SeatOf Y → ℕ → SeatOf Y → Type 0
  took_empty m n m' = m' ≡ (record m.0 { away = false }, (0, None) ∷ [])

  -- the parked word was raised: nothing that the view knows changed
  abbrev pub unchanged : SeatOf Y → ℕ → SeatOf Y → Type 0
  unchanged m n m' = m' ≡ m

  -- nothing changed. What was seen begins with what the pass that was joined had seen, and no more
  -- names ended than the root gave
  abbrev pub looked_back : SeatOf Y → ℕ → SeatOf Y → Type 0
  looked_back m n m' = (m' ≡ m) × StartsWith m.0.seen m.0.heard × (m.0.root ≡ true
      → length m.0.ended ≤ m.0.given)

module _ {Y : Type 0} (shows : Y → List Entry) (origin : Y → Origin) where
  -- The turn has come, one more than before, and the seat has the value. Its entries begin with
  -- those that were seen, and of the names that the view knows it has exactly the entries that the
  -- view knows.
  abbrev pub Got : SeatOf Y → SeatOf Y → Type 0
  Got m m' = (y : Y) × (m' ≡ (
    record m.0 { turn = true; turns = m.0.turns + 1; seen = shows y },
    (0, Some y) ∷ m.1,
  )) × StartsWith (shows y) m.0.seen × Knows m.0 (shows y) × (origin y ≡ m.0.origin)

  -- the serving word was watched: if it shows the ticket the turn has come, else nothing changed
  abbrev pub watched : SeatOf Y → ℕ → SeatOf Y → Type 0
  watched m n m' = (n ≡ m.0.ticket % 2 ^ 64 → Got m m') × (n ≢ m.0.ticket % 2 ^ 64 → m' ≡ m)

module _ {Y : Type 0} (shows : Y → List Entry) where
  -- the value was given back, and the turn passed on
  abbrev pub passed_on : SeatOf Y → ℕ → SeatOf Y → Type 0
  passed_on m n m' = (y : Y) → m.1 ≡ (0, Some y) ∷ []
      → m' ≡ (
        record m.0 {
          waits = false;
          turn = false;
          seen = shows y;
          own = under m.0.name (shows y);
        },
        [],
      )

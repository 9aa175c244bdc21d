-- The rule of the lock: what holds of the words, the slot and all views between any two steps of
-- whatever threads.
--
-- The lock is a ticket lock. Whoever wants a turn adds one to the ticket word and has drawn the
-- number that it showed before. It is the turn of the ticket that the serving word shows. Who ends
-- a turn adds one to the serving word, which passes the turn on. The words are numbers below 2^64.
-- The rule counts tickets without end: `drawn` and `served` are those counts, and a word shows its
-- count modulo 2^64. A third word shows one more than the last turn over which a thread parked, so
-- that nobody is woken if nobody sleeps. The rule says nothing about its number.
use Rattle.std.specs.Prelude.{◌≡◌, ◌≢◌, ◌⊎◌, ℕ, ◌+◌, ◌%◌, ◌^◌, ◌<◌, ◌≤◌, Bool, true, false, List, [], ◌∷◌, length, min, Option, Some, None}
use mathlib.Core.Option.{some}
use mathlib.Core.Option as maybe
use lib.ListN.{get_elem?}
use Rattle.atomic_table.specs.Table.{State}
use Rattle.mail_records.specs.Histories.{Entry}
use Rattle.account_lock.specs.declared.limits.TheConstants.{MAX_NAMES}
use Rattle.account_lock.specs.Entries.{under, StartsWith}
use Rattle.account_lock.specs.Views.{Ended, Origin, View, HasName}

-- in the history the entries under the view's name are its own ones, and those under each ended
-- name are those kept with that name
abbrev pub Knows : View → List Entry → Type 0
Knows v log = (0 < v.name → under v.name log ≡ v.own) × ((i : ℕ) (e : Ended)
    → get_elem? v.ended i ≡ some e → under e.name log ≡ e.entries)

-- a truth value as a number
abbrev pub weight : Bool → ℕ
weight true = 1
weight false = 0

-- how many views wait or have the turn
abbrev pub waiting : List View → ℕ
waiting [] = 0
waiting (v ∷ vs) = weight v.waits + waiting vs

-- how many names a view has
abbrev pub names_of : View → ℕ
names_of v = min v.name 1 + length v.ended

-- how many names all views have
abbrev pub names_out : List View → ℕ
names_out [] = 0
names_out (v ∷ vs) = names_of v + names_out vs

-- What the view v of the pass number j says is true. The history is `log`; `homes` has the slot,
-- which is empty, or full, or out with a seat.
pub record Fits {Y : Type 0} (drawn served given : ℕ) (start : Origin) (log : List Entry)
    (homes : List (maybe.Option (Option Y))) (j : ℕ) (v : View) : Type 0 where
  -- a ticket that is out is from `served` to below `drawn`
  pub ticket : v.waits ≡ true → (served ≤ v.ticket) × (v.ticket < drawn)
  -- only the view whose ticket is served has the turn, and it has seen the whole history
  pub turn : v.turn ≡ true → (v.waits ≡ true) × (v.ticket ≡ served) × (v.seen ≡ log)
  -- the value is out only while this view has the turn
  pub away : v.away ≡ true → (v.turn ≡ true) × (get_elem? homes 0 ≡ some (some None))
  -- what was seen is a beginning of the history
  pub seen : StartsWith log v.seen
  -- what it knows of names is true
  pub knows : Knows v log
  -- what was seen begins with what the pass that was joined last had seen
  pub heard : StartsWith v.seen v.heard
  -- its name and its ended names were given, and the ended names aren't its own
  pub name : v.name ≤ given
  pub ended : (i : ℕ) (e : Ended) → get_elem? v.ended i ≡ some e
      → (0 < e.name) × (e.name ≤ given) × (e.name ≢ v.name)
  -- a view without a name has no ticket
  pub unnamed : v.name ≡ 0 → v.waits ≡ false
  -- the root is the first pass, has no name, and counts the names that it has given
  pub root : v.root ≡ true → (j ≡ 0) × (v.name ≡ 0) × (v.given ≡ given)
  -- what it says of the value's origin is true, unless it is spent
  pub origin : (v.root ≡ true) ⊎ (0 < v.name) → v.origin ≡ start

-- `shows` gives the entries of a value, `origin` what of it never changes
module _ {Y : Type 0} (shows : Y → List Entry) (origin : Y → Origin) where
  -- the rule, of the words, the slot and the views of a state; `built` is the value that the lock
  -- was built around
  pub record IsKept (built : Y) (s : State (Option Y) View) : Type 0 where
    -- how many tickets were drawn, how many turns are over, what the parked word shows, how many
    -- names were given
    pub drawn : ℕ
    pub served : ℕ
    pub parked : ℕ
    pub given : ℕ
    pub start : Origin
    -- the history: while a view has the turn what that view has seen, and else the entries of the
    -- value
    pub log : List Entry
    pub words : s.words ≡ drawn % 2 ^ 64 ∷ served % 2 ^ 64 ∷ parked ∷ []
    pub one_slot : length s.homes ≡ 1
    -- the tickets from `served` to below `drawn` are out, one with each view that waits
    pub tickets : drawn ≡ served + waiting s.views
    -- one view is the root's, and one was made with each name; so fewer than 2^64 tickets are out,
    -- and no two look alike in a word
    pub many : length s.views ≡ given + 1
    pub few : given ≤ MAX_NAMES
    pub each : (j : ℕ) (v : View) → get_elem? s.views j ≡ some v
        → Fits drawn served given start log s.homes j v
    -- no two views have one ticket
    pub apart : (i j : ℕ) (v w : View) → get_elem? s.views i ≡ some v
        → get_elem? s.views j ≡ some w → v.waits ≡ true → w.waits ≡ true → v.ticket ≡ w.ticket
        → i ≡ j
    -- no two views have one name
    pub named : (i j n : ℕ) (v w : View) → get_elem? s.views i ≡ some v
        → get_elem? s.views j ≡ some w → 0 < n → HasName v n → HasName w n → i ≡ j
    -- if no view has the turn, the slot has the value
    pub home : ((j : ℕ) (v : View) → get_elem? s.views j ≡ some v → v.turn ≡ false)
        → (y : Y) × (get_elem? s.homes 0 ≡ some (some (Some y))) × (shows y ≡ log)
        × (origin y ≡ start)
    -- while no name was given, the slot has the value that the lock was built around
    pub untouched : given ≡ 0 → get_elem? s.homes 0 ≡ some (some (Some built))
    -- the names that were given are those that the views have
    pub counted : given ≡ names_out s.views
    pub covered : (n : ℕ) → 0 < n → n ≤ given
        → (j : ℕ) × (v : View) × (get_elem? s.views j ≡ some v) × HasName v n
    -- each entry of the history has a name that was given
    pub strangers : (n : ℕ) → (n ≡ 0) ⊎ (given < n) → under n log ≡ []

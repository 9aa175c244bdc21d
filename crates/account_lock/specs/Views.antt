-- What the holder of a pass knows of the lock: its view. Views are ghost data. The table of words
-- and slots keeps the view of each pass in its proofs, and only a step of that pass's holder
-- changes it. So what a view says has to stay true whatever the other threads do.
use Rattle.std.specs.Prelude.{◌≡◌, ◌⊎◌, ℕ, ◌+◌, ◌<◌, Bool, true, false, List, [], ◌∷◌, ◌++◌, Option, Some, None, if◌then◌else◌}
use mathlib.Core.Option.{some}
use lib.ListN.{get_elem?}
use Rattle.atomic_table.specs.Seated.{TableId}
use Rattle.mail_records.specs.Histories.{Entry, History, empty_history}
use Rattle.account_lock.specs.Entries.{longer_of}

-- a name whose pass has ended, with all entries that it gave
pub record Ended : Type 0 where
  pub name : ℕ
  pub entries : List Entry

-- what of the value never changes while the lock guards it: how many entries it had before its
-- start, and what it opened with
pub record Origin : Type 0 where
  pub before : ℕ
  pub opening : History

-- what a thread knows of the lock by its pass
pub record View : Type 0 where
  -- it is the first pass's, which gives the names and never takes a turn
  pub root : Bool
  -- the name of the pass; 0 for the root and for a pass that was joined
  pub name : ℕ
  -- how many names the root has given: the names from 1 to this number
  pub given : ℕ
  -- what never changes of the value
  pub origin : Origin
  -- it has drawn a ticket and hasn't passed the turn on since
  pub waits : Bool
  -- its last ticket, counted without end; the word in memory shows it modulo 2^64
  pub ticket : ℕ
  -- its turn has come: no other thread touches the value
  pub turn : Bool
  -- how many of its turns have come
  pub turns : ℕ
  -- the caller has the value, and the slot is empty
  pub away : Bool
  -- the entries that it has seen
  pub seen : List Entry
  -- what the pass that was joined last had seen
  pub heard : List Entry
  -- the entries that it gave
  pub own : List Entry
  -- the names of the passes that were joined
  pub ended : List Ended

-- the view of the root, as the lock is built
abbrev pub rooted : Origin → View
rooted origin =
    record {
      root = true;
      name = 0;
      given = 0;
      origin = origin;
      waits = false;
      ticket = 0;
      turn = false;
      turns = 0;
      away = false;
      seen = [];
      heard = [];
      own = [];
      ended = [];
    }

-- the root after it has given one name more
abbrev pub one_given : View → View
one_given v = record v { given = v.given + 1 }

-- the view of the pass that has this name
abbrev pub newcomer : View → View
newcomer v =
    record {
      root = false;
      name = v.given + 1;
      given = 0;
      origin = v.origin;
      waits = false;
      ticket = 0;
      turn = false;
      turns = 0;
      away = false;
      seen = v.seen;
      heard = [];
      own = [];
      ended = [];
    }

-- what ends when a pass with the view w is joined: its own name, and those that had ended with it
abbrev pub ended_with : View → List Ended
ended_with w = record { name = w.name; entries = w.own } ∷ w.ended

-- the view v after a pass with the view w was joined. A view with the turn has seen the whole
-- history, and keeps it
abbrev pub joined : View → View → View
joined v w = record v {
  seen = if v.turn then v.seen else longer_of v.seen w.seen;
  heard = w.seen;
  ended = v.ended ++ ended_with w;
}

-- the origin of no value
abbrev pub nowhere : Origin
nowhere = record { before = 0; opening = empty_history }

-- what is left of the view of a pass that was joined
abbrev pub spent : View
spent =
    record {
      root = false;
      name = 0;
      given = 0;
      origin = nowhere;
      waits = false;
      ticket = 0;
      turn = false;
      turns = 0;
      away = false;
      seen = [];
      heard = [];
      own = [];
      ended = [];
    }

-- the view has this name, as its own or as one that ended with it
abbrev pub HasName : View → ℕ → Type 0
HasName v n = (v.name ≡ n) ⊎ ((i : ℕ) × (e : Ended) × (get_elem? v.ended i ≡ some e) × (e.name ≡ n))

-- what contracts see of a lock: which table it is, and the value that it was built around
pub record LockFacts (B : Type 0) : Type 0 where
  pub id : TableId
  pub built : B

-- a turn: the lock, the name of the pass, and how many turns the pass had had, with this one
pub record Turn : Type 0 where
  pub lock : TableId
  pub name : ℕ
  pub number : ℕ

-- what is known of the last turn of a pass
pub record LastTurn : Type 0 where
  -- how many turns the pass has had; 0 if it had none yet
  pub number : ℕ
  -- the turn of another pass that went on when it began, and when it ended, where that is noted
  pub began_in : Option Turn
  pub ended_in : Option Turn

-- no turn yet
abbrev pub no_turn : LastTurn
no_turn = record { number = 0; began_in = None; ended_in = None }

-- the last turn of a pass once one more began, within this turn of another pass if there is one
abbrev pub begun_within : Option Turn → LastTurn → LastTurn
begun_within other t = record { number = t.number + 1; began_in = other; ended_in = None }

-- the last turn of a pass once it ended, within this turn of another pass if there is one
abbrev pub ended_within : Option Turn → LastTurn → LastTurn
ended_within other t = record t { ended_in = other }

-- what contracts see of a pass: its lock, and what its view says
pub record PassFacts : Type 0 where
  -- the lock that it is of
  pub lock : TableId
  -- it is the first pass, which gives the names
  pub root : Bool
  -- its name; 0 for the root
  pub name : ℕ
  -- how many names it has given, where it is the root
  pub given : ℕ
  -- how many entries the value had before its start, and what it opened with
  pub before : ℕ
  pub opening : History
  -- its holder has the value
  pub holds : Bool
  -- its last turn, which goes on while its holder has the value
  pub last : LastTurn
  -- the entries that its holder has seen
  pub seen : List Entry
  -- the entries that it gave
  pub own : List Entry
  -- the names of the passes that it was joined with, each with the entries that it gave
  pub ended : List Ended

-- the turn that a pass of this lock with this view has, if it has one
abbrev pub turn_with : TableId → View → Option Turn
turn_with z v =
    if v.turn then Some (record { lock = z; name = v.name; number = v.turns }) else None

-- the facts of a pass of this lock with this view, and with these turns of other passes, in which
-- its last turn began and ended
abbrev pub facts_of : TableId → Option Turn → Option Turn → View → PassFacts
facts_of z first last v =
    record {
      lock = z;
      root = v.root;
      name = v.name;
      given = v.given;
      before = v.origin.before;
      opening = v.origin.opening;
      holds = v.turn;
      last = record { number = v.turns; began_in = first; ended_in = last };
      seen = v.seen;
      own = v.own;
      ended = v.ended;
    }

-- what never changes of the locked value
abbrev pub origin_of : PassFacts → Origin
origin_of k = record { before = k.before; opening = k.opening }

-- a pass has one view
abbrev pub view_of : List View → View
view_of [] = spent
view_of (v ∷ vs) = v

abbrev pub facts : TableId → Option Turn → Option Turn → List View → PassFacts
facts z first last views = facts_of z first last (view_of views)

-- the last turn of a pass
abbrev pub turn_of : PassFacts → Turn
turn_of k = record { lock = k.lock; name = k.name; number = k.last.number }

-- the turn that a pass has, if it has one
abbrev pub going_turn : PassFacts → Option Turn
going_turn k = if k.holds then Some (turn_of k) else None

-- the view of a pass between two calls: it waits only while it has the turn, and then the value is
-- with the caller
pub record IsSettled (name given : ℕ) (views : List View) : Type 0 where
  pub view : View
  pub only : views ≡ view ∷ []
  pub name_is : view.name ≡ name
  pub given_is : view.given ≡ given
  pub waits_is : view.waits ≡ view.turn
  pub away_is : view.away ≡ view.turn
  pub named : view.root ≡ false → 0 < name
  pub root_is : view.root ≡ true → view.waits ≡ false

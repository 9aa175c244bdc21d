-- What contracts see of a hall and of its front, and which passes are of which hall.
use Rattle.std.specs.Prelude.{◌≡◌, ℕ, ◌+◌, ◌≤◌, true, List, [], ◌∷◌, map, length, ⊤}
use Rattle.std.specs.List.{AllByRecursion}
use Rattle.atomic_table.specs.Seated.{TableId}
use Rattle.mail_records.specs.Histories.{Entry}
use Rattle.account_book.specs.Books.{BookView}
use Rattle.account_book.specs.Passes.{numbered_since}
use Rattle.account_lock.specs.Entries.{StartsWith}
use Rattle.account_lock.specs.Passes.{taken_in}
use Rattle.account_lock.specs.Views.{LockFacts, PassFacts}
use Rattle.jm_base.specs.declared.limits.TheConstants.{MAX_SESSIONS}

-- an account with its lock
pub record RoomFacts (B : Type 0) : Type 0 where
  pub name : List ℕ
  pub lock : LockFacts B

-- what contracts see of an account of a hall: its name, and which lock guards it
pub record RoomView : Type 0 where
  pub name : List ℕ
  pub lock : TableId

abbrev pub room_view : {B : Type 0} → RoomFacts B → RoomView
room_view r = record { name = r.name; lock = r.lock.id }

abbrev pub lock_of_room : RoomView → TableId
lock_of_room r = r.lock

abbrev pub lock_of_pass : PassFacts → TableId
lock_of_pass k = k.lock

-- the passes are of this hall: one for each account, in their order
abbrev pub AreOf : List RoomView → List PassFacts → Type 0
AreOf rooms passes = map lock_of_pass passes ≡ map lock_of_room rooms

-- the entries of a book since it was opened, each with the number of its pass
abbrev pub entries_of : {K R : Type 0} → BookView K R → List Entry
entries_of b = numbered_since b.opened b.since

-- What contracts see of a hall's front: the root of each account's lock, how many sessions are in,
-- and how many were admitted up to now.
pub record FrontView : Type 0 where
  pub roots : List PassFacts
  pub inside : ℕ
  pub admitted : ℕ

-- A root gave a name to each session that was admitted, and those that left have ended.
pub record IsFrontPass (inside admitted : ℕ) (k : PassFacts) : Type 0 where
  pub root : k.root ≡ true
  pub given : k.given ≡ admitted
  pub count : length k.ended + inside ≡ k.given

-- what holds of each front
pub record IsFront (f : FrontView) : Type 0 where
  pub few : f.inside ≤ MAX_SESSIONS
  pub each : AllByRecursion (IsFrontPass f.inside f.admitted) f.roots

-- the root after one name more
abbrev pub one_given : PassFacts → PassFacts
one_given k = record k { given = k.given + 1 }

-- the roots after the passes of a session were joined with them
abbrev pub all_taken_in : List PassFacts → List PassFacts → List PassFacts
all_taken_in [] ks = []
all_taken_in (r ∷ rs) [] = r ∷ rs
all_taken_in (r ∷ rs) (k ∷ ks) = taken_in r k ∷ all_taken_in rs ks

-- each root has then seen what it had seen and what the pass had seen
abbrev pub HaveHeard : List PassFacts → List PassFacts → List PassFacts → Type 0
HaveHeard (n ∷ ns) (r ∷ rs) (k ∷ ks) =
    StartsWith n.seen r.seen × StartsWith n.seen k.seen × HaveHeard ns rs ks
HaveHeard _ _ _ = ⊤

-- How a hall is built of accounts, and what an account is that it gives back.
use Rattle.std.specs.Prelude.{◌≡◌, List, [], ◌∷◌, ◌++◌, ⊤}
use Rattle.mail_records.specs.Histories.{Entry}
use Rattle.account_book.specs.Books.{BookView}
use Rattle.account_lock.specs.Entries.{StartsWith}
use Rattle.account_lock.specs.Passes.{HasEndedAll, HasNoOthers, IsLast, KeepsEnded, root_of}
use Rattle.account_lock.specs.Views.{LockFacts, PassFacts}
use Rattle.account_hall.specs.Halls.{RoomFacts, RoomView, entries_of}
use Rattle.account_hall.specs.declared.named_account.Named.{Named}

-- an account whose book has no entry since it was opened
abbrev pub IsFresh : {K R : Type 0} → Named K R → Type 0
IsFresh account = account.book.since ≡ []

-- the root of a lock that was just built around a book
abbrev pub first_root : {K R : Type 0} → LockFacts (BookView K R) → PassFacts
first_root lock = root_of lock.id lock.built.before lock.built.opened

-- the account that a room was built for
abbrev pub named_of : {K R : Type 0} → RoomFacts (BookView K R) → Named K R
named_of room = record { name = room.name; book = room.lock.built }

-- each account has a room, in their order, and the root of its lock, which has seen nothing yet
abbrev pub AreBuilt : {K R : Type 0} → List (Named K R) → List RoomView → List PassFacts → Type 0
AreBuilt [] [] [] = ⊤
AreBuilt (a ∷ accounts) (r ∷ rs) (k ∷ ks) =
    (r.name ≡ a.name) × (k ≡ root_of r.lock a.book.before a.book.opened) × AreBuilt accounts rs ks
AreBuilt _ _ _ = ⊥

-- What the entries of an account are that was guarded by a lock with this root. They begin with
-- what the root had seen. Each name that the root gave is that of one session, which left. Under
-- the name of each session they are those that the session had then, and each of them is of such a
-- session.
pub record AreClosedBy (root : PassFacts) (entries : List Entry) : Type 0 where
  pub seen : StartsWith entries root.seen
  pub ended : KeepsEnded root entries
  pub all : HasEndedAll root
  pub last : IsLast root
  pub names : HasNoOthers root entries

-- What an account is that was guarded by a lock with this root. What it had opened with is as
-- before.
pub record IsClosed {K R : Type 0} (root : PassFacts) (book : BookView K R) : Type 0 where
  pub entries_are : AreClosedBy root (entries_of book)
  pub before : book.before ≡ root.before
  pub opening : book.opened ≡ root.opening

-- the last account was taken out of its room
pub record IsParted {K R : Type 0} (old new : List RoomView) (old_roots new_roots : List PassFacts)
    (account : Named K R) : Type 0 where
  pub room : RoomView
  pub root : PassFacts
  pub rooms : old ≡ new ++ room ∷ []
  pub roots : old_roots ≡ new_roots ++ root ∷ []
  pub name_is : account.name ≡ room.name
  pub closed : IsClosed root account.book

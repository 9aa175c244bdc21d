-- When a connection tells a content, and what a crash leaves of one.
use Rattle.std.specs.Prelude.{◌≡◌, ◌⊎◌, ℕ, Bool, true, List, [], map, Option, Some, Result, IsTrue, IsPermutation, IfOk, OnOk, OnErr}
use Rattle.sqlite_value.specs.Order.{Row}
use Rattle.sqlite_trees.specs.declared.store.Store.{Ghosts}
use Rattle.sqlite_trees.specs.Tree.{Trees}
use Rattle.sqlite.specs.Effect.{Database, IsDatabase}
use Rattle.sqlite.specs.State.{State, HasCleanDisk, Survives}
use Rattle.sqlite.specs.Held.{Held, state}
use Rattle.keep_port.specs.declared.kept.Kept.{Kept}
use Rattle.keep_sqlite.specs.Format.{our_schema, half_schema, no_schema, names_format, kept_rows, told, shown}

-- the trees list the two tables and nothing else and obey them, and they tell this content
pub record Tells (db : Database) (k : Kept) : Type 0 where
  pub ours : db.schema ≡ our_schema
  pub sound : IsDatabase db
  pub tells : told db.trees ≡ Some k

-- the connection is open, and what it sees tells this content, whatever waits for a commit
pub record Shows (s : State) (k : Kept) : Type 0 where
  pub is_open : IsTrue s.is_open
  pub now : Tells s.now k

-- the same, and nothing waits for a commit
pub record Keeps (s : State) (k : Kept) : Type 0 where
  pub shows : Shows s k
  pub committed : s.committed ≡ s.now

-- a change inside a transaction after which the connection shows this content
pub record Changes (old new : State) (k : Kept) : Type 0 where
  pub shows : Shows new k
  pub committed : new.committed ≡ old.committed
  pub inside : IsTrue new.in_transaction

-- a connection that is shut stays shut
abbrev pub StaysShut : State → State → Type 0
StaysShut old new = HasCleanDisk new → IsTrue new.is_open → IsTrue old.is_open

-- a statement ran inside a transaction, which goes on
pub record IsInside (old new : State) : Type 0 where
  pub was_open : IsTrue old.is_open
  pub mode : IsTrue new.in_transaction

-- a change inside a transaction after which what the connection sees is so
pub record Stages (old new : State) (IsSo : Database → Type 0) : Type 0 where
  pub is_open : IsTrue new.is_open
  pub so : IsSo new.now
  pub sound : IsDatabase new.now
  pub committed : new.committed ≡ old.committed
  pub inside : IsTrue new.in_transaction

-- the table `about` alone, without a row
pub record HasAbout (db : Database) : Type 0 where
  pub is : db.schema ≡ half_schema
  pub about : db.trees 0 ≡ []

-- the two tables alone, without a row
pub record HasTables (db : Database) : Type 0 where
  pub is : db.schema ≡ our_schema
  pub about : db.trees 0 ≡ []
  pub commits : db.trees 1 ≡ []

-- an open after a crash would find the two tables alone, and they tell this content
abbrev pub Leaves : Trees → Kept → Type 0
Leaves trees k = Tells (record { schema = our_schema; trees = trees }) k

-- What a load makes of a connection that was there, whatever it returned. It leaves what is kept,
-- and returns that; a crash leaves what it might have left before, or what is kept.
pub record Fetches {S E : Type 0} (g : Ghosts S) (old : Held S) (connection : Option (Held S))
    (ours : Bool) (result : Result (List (List ℕ)) E) : Type 0 where
  pub new : Held S
  pub is : connection ≡ Some new
  pub shut : StaysShut (state g old) (state g new)
  pub crash : Survives (state g old) (state g new)
      (λ db. IsTrue (state g old).is_open × ((k : Kept) → Keeps (state g old) k → Leaves db k))
  pub still : HasCleanDisk (state g new) → (k : Kept) → Keeps (state g old) k
      → IfOk result (λ rows. IsTrue ours × (k ≡ kept_rows rows))
  pub refused : HasCleanDisk (state g new) → (k : Kept) → Keeps (state g old) k
      → OnErr result (IsTrue (state g new).is_open → Keeps (state g new) k)
  pub blank : HasCleanDisk (state g new) → old.schema ≡ no_schema
      → IfOk result (λ rows. IsTrue ours × (rows ≡ []))

-- What a change makes of a connection that was there, if what is kept before is such that the
-- change makes of it another content. After Ok the connection keeps that content; after an error it
-- keeps what it kept, or it is shut. A crash leaves what it might have left before, or the new
-- content. All of it as far as the disk returns what was written.
pub record Writes {S T E : Type 0} (g : Ghosts S) (IsFit : Kept → Type 0) (next : Kept → Kept)
    (old : Held S) (connection : Option (Held S)) (result : Result T E) : Type 0 where
  pub new : Held S
  pub is : connection ≡ Some new
  pub shut : StaysShut (state g old) (state g new)
  pub opened : HasCleanDisk (state g new) → OnOk result (IsTrue (state g old).is_open)
  pub crash : Survives (state g old) (state g new)
      (λ db. IsTrue (state g old).is_open
      × ((k : Kept) → Keeps (state g old) k → IsFit k → Leaves db k ⊎ Leaves db (next k)))
  pub told : HasCleanDisk (state g new) → (k : Kept) → Keeps (state g old) k → IsFit k
      → OnOk result (Keeps (state g new) (next k))
  pub durable : HasCleanDisk (state g new) → (k : Kept) → Keeps (state g old) k → IsFit k
      → OnOk result ((db : Trees) → (state g new).may_leave db → Leaves db (next k))
  pub refused : HasCleanDisk (state g new) → (k : Kept) → Keeps (state g old) k → IsFit k
      → OnErr result (IsTrue (state g new).is_open → Keeps (state g new) k)

-- the table `about` names the format, and these are the rows of the table `commits`, in some order
pub record AreFound (db : Trees) (rows : List Row) : Type 0 where
  pub named : names_format (db 0) ≡ true
  pub found : IsPermutation (map shown (db 1)) rows

-- what was read was left as it was, and nothing waits for a commit
pub record IsRead (old new : State) : Type 0 where
  pub was_open : IsTrue old.is_open
  pub is_open : IsTrue new.is_open
  pub same : new.now ≡ old.now
  pub committed : new.committed ≡ new.now

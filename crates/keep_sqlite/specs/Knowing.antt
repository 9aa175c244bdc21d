-- What a keeper knows of its database, what it is said to keep, and what a crash may leave of it.
use Rattle.std.specs.Prelude.{◌≡◌, ◌⊎◌, ⊤, ℕ, Bool, false, if◌then◌else◌, List, length, Option, Some, None, Result, IsTrue, IfOk, MatchResult, refl}
use Rattle.std.specs.Coded.{Coded, code_by, coded×, coded_ℕ, coded_bool, coded_option}
use Rattle.sqlite_trees.specs.declared.store.Store.{Ghosts}
use Rattle.sqlite_trees.specs.Tree.{Trees}
use Rattle.sqlite.specs.State.{HasCleanDisk}
use Rattle.sqlite.specs.Held.{Held, held_code, state}
use Rattle.keep_port.specs.declared.kept.Kept.{Kept}
use Rattle.keep_sqlite.specs.Format.{kept_rows, told}
use Rattle.keep_sqlite.specs.Telling.{Keeps, Leaves}

-- What contracts see of a database: what opens it, its connection if it is open, the number of its
-- last row if that is known, whether its tables were those of the format alone when they were
-- checked, and whether its content is known.
pub record DatabaseView (S O : Type 0) : Type 0 where
  pub opener : O
  pub connection : Option (Held S)
  pub last : Option ℕ
  pub ours : Bool
  pub known : Bool

-- how a proof tells two of them apart
abbrev pub database_code : {S O : Type 0} → Coded S → Coded O → Coded (DatabaseView S O)
database_code {S} {O} store opener =
    code_by (O × (Option (Held S) × (Option ℕ × (Bool × Bool))))
    (coded× opener (coded× (coded_option (held_code store))
    (coded× (coded_option coded_ℕ) (coded× coded_bool coded_bool))))
    (λ d. (d.opener, (d.connection, (d.last, (d.ours, d.known)))))
    (λ p. record {
      opener = p.0;
      connection = p.1.0;
      last = p.1.1.0;
      ours = p.1.1.1.0;
      known = p.1.1.1.1;
    })
    (λ _. refl)

-- this is the number of the content's last row, if it is known
abbrev pub IsLastOf : Option ℕ → Kept → Type 0
IsLastOf None k = ⊤
IsLastOf (Some n) k = n ≡ length k.rows

-- While the connection is open it keeps some content, and this is the number of its last row.
-- Whatever a crash leaves tells some content, as far as the disk returns what was written.
pub record IsKnown {S : Type 0} (g : Ghosts S) (last : Option ℕ) (h : Held S) : Type 0 where
  pub keeps : IsTrue (state g h).is_open → (k : Kept) × Keeps (state g h) k × IsLastOf last k
  pub leaves : HasCleanDisk (state g h) → (db : Trees) → (state g h).may_leave db
      → (k : Kept) × Leaves db k

-- what is true of each database of a keeper
pub record IsSound {S : Type 0} (g : Ghosts S) (connection : Option (Held S)) (last : Option ℕ)
    (ours known : Bool) : Type 0 where
  pub none : connection ≡ None → ours ≡ false
  pub checked : IsTrue known → IsTrue ours
  pub some : (h : Held S) → connection ≡ Some h → IsTrue ours → IsKnown g last h

-- what the tables of a connection tell, while it is open
abbrev pub told_by : {S : Type 0} → Ghosts S → Option (Held S) → Option Kept
told_by g None = None
told_by g (Some h) = if (state g h).is_open then told (state g h).now.trees else None

-- The content, if it is known: what the tables tell.
abbrev pub content_of : {S O : Type 0} → Ghosts S → DatabaseView S O → Option Kept
content_of g v = if v.known then told_by g v.connection else None

-- a crash may leave trees that tell this content
pub record MayTell {S O : Type 0} (g : Ghosts S) (v : DatabaseView S O) (k : Kept) : Type 0 where
  pub known : IsTrue v.known
  pub held : Held S
  pub is : v.connection ≡ Some held
  pub clean : HasCleanDisk (state g held)
  pub left : Trees
  pub may : (state g held).may_leave left
  pub tells : told left ≡ Some k

-- Whatever a crash may leave tells a content, if the content is known and the disk returned what
-- was written.
abbrev pub LeavesTold : {S O : Type 0} → Ghosts S → DatabaseView S O → Type 0
LeavesTold {S} g v =
    (h : Held S) → v.connection ≡ Some h → IsTrue v.known → HasCleanDisk (state g h) → (db : Trees)
    → (state g h).may_leave db → (k : Kept) × MayTell g v k

-- the connection is there and open
abbrev pub IsOpenIn : {S O : Type 0} → Ghosts S → DatabaseView S O → Type 0
IsOpenIn {S} g v = (h : Held S) × (v.connection ≡ Some h) × IsTrue (state g h).is_open

-- What a look at the tables makes of a database: what is known of the content stays so while the
-- connection is open, and a crash leaves nothing more.
pub record Fetched {S O : Type 0} (g : Ghosts S) (old new : DatabaseView S O) : Type 0 where
  pub content : (k : Kept) → content_of g new ≡ Some k → content_of g old ≡ Some k
  pub left : (k : Kept) → MayTell g new k → MayTell g old k
  pub stays : IsOpenIn g new → (k : Kept) → content_of g old ≡ Some k → content_of g new ≡ Some k
  pub leaves : LeavesTold g new

-- What a load that returned these rows, or an error, makes of a database.
pub record Loaded {S O E : Type 0} (g : Ghosts S) (old new : DatabaseView S O)
    (result : Result (List (List ℕ)) E) : Type 0 where
  pub loaded : IfOk result (λ rows. (k : Kept) → content_of g new ≡ Some k → k ≡ kept_rows rows)
  pub content : (k : Kept) → content_of g new ≡ Some k
      → MatchResult result (λ rows. (o : Kept) → content_of g old ≡ Some o → o ≡ k)
      (λ _. content_of g old ≡ Some k)
  pub left : (k : Kept) → MayTell g new k → MayTell g old k ⊎ (content_of g new ≡ Some k)
  pub stays : IsOpenIn g new → (k : Kept) → content_of g old ≡ Some k → content_of g new ≡ Some k
  pub leaves : LeavesTold g new

-- What a change that makes this content of the one before makes of a database: after Ok that is
-- the content, and a crash leaves nothing else; after an error it is what it was, and a crash may
-- leave that too. The content is known as long as it was and the connection is open.
pub record Changed {S O T E : Type 0} (g : Ghosts S) (next : Option Kept)
    (old new : DatabaseView S O) (result : Result T E) : Type 0 where
  pub content : (k : Kept) → content_of g new ≡ Some k
      → MatchResult result (λ _. next ≡ Some k) (λ _. content_of g old ≡ Some k)
  pub left : (k : Kept) → MayTell g new k
      → MatchResult result (λ _. next ≡ Some k) (λ _. MayTell g old k ⊎ (next ≡ Some k))
  pub stays : IsOpenIn g new → (k : Kept) → content_of g old ≡ Some k
      → MatchResult result (λ _. content_of g new ≡ next) (λ _. content_of g new ≡ Some k)
  pub leaves : LeavesTold g new

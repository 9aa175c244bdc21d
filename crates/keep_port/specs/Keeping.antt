-- What a call makes of a keeper's content, what a crash may leave after it, and when a fault may be
-- answered.
--
-- A keeper's content is a base or none, and rows. Contracts know it as an `Option`: `None` if the
-- keeper cannot say what its content is, as after a fault of its disk.
use Rattle.std.specs.Prelude.{◌≡◌, ◌↔◌, ℕ, Result, Ok, Err, List, [], ◌∷◌, ◌++◌, Option, Some, None, ◌⊎◌}
use Rattle.jm_edge.specs.declared.fault.EdgeFault.{EdgeFault}
use Rattle.jm_edge.specs.declared.fault.EdgeFault.TheVariants.{Failed, NoMemory}
use Rattle.keep_port.specs.declared.kept.Kept.{Kept}

-- this is the content, if the content is known
abbrev pub IsContent : Option Kept → Kept → Type 0
IsContent known k = (t : Kept) → known ≡ Some t → k ≡ t

-- the content is unknown now, or exactly this
abbrev pub IsUnknownOr : Option Kept → Option Kept → Type 0
IsUnknownOr next now = (k : Kept) → now ≡ Some k → next ≡ Some k

-- the content with one more row at its end
abbrev pub with_row : List ℕ → Kept → Kept
with_row row k = record { base = k.base; rows = k.rows ++ row ∷ [] }

-- the content with one more row at its end, if the content is known
abbrev pub with_row_if : List ℕ → Option Kept → Option Kept
with_row_if row None = None
with_row_if row (Some k) = Some (with_row row k)

-- the content after a call that makes `next` of the content `old`: an error leaves the content as
-- it was
abbrev pub content_after : {T : Type 0} → Result T EdgeFault → Option Kept → Option Kept
    → Option Kept
content_after (Ok _) next old = next
content_after (Err _) next old = old

-- The content after a `load`, which changes nothing. A content that was unknown is known by what an
-- Ok returned.
abbrev pub content_loaded : Result Kept EdgeFault → Option Kept → Option Kept
content_loaded (Ok k) None = Some k
content_loaded (Ok k) (Some old) = Some old
content_loaded (Err _) old = old

-- What a crash may leave after a call that makes `next` of the content: after Ok nothing but that;
-- after an error nothing but that and what it might have left before.
abbrev pub MayLeave : {T : Type 0} → Result T EdgeFault → Option Kept → (Kept → Type 0) → (Kept
    → Type 0) → Type 0
MayLeave (Ok _) next old new = (k : Kept) → new k → next ≡ Some k
MayLeave (Err _) next old new = (k : Kept) → new k → old k ⊎ (next ≡ Some k)

-- What a crash may leave at least after such a call: after Ok `next`; after a fault `next` and what
-- it might have left before; if memory ran out what it might have left before.
abbrev pub MustLeave : {T : Type 0} → Result T EdgeFault → Option Kept → (Kept → Type 0) → (Kept
    → Type 0) → Type 0
MustLeave (Ok _) next old new = (k : Kept) → next ≡ Some k → new k
MustLeave (Err Failed) next old new = (k : Kept) → old k ⊎ (next ≡ Some k) → new k
MustLeave (Err NoMemory) next old new = (k : Kept) → old k → new k

-- a crash leaves the content, and nothing else
abbrev pub LeavesContent : Option Kept → (Kept → Type 0) → Type 0
LeavesContent known image = (k : Kept) → image k ↔ (known ≡ Some k)

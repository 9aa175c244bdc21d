-- The state of a kind of record at a position, which states a history still knows, and what was
-- touched since one (RFC 8620, 5.1, 5.2 and 5.6).
use Rattle.std.specs.Prelude.{◌≡◌, ℕ, ◌+◌, ◌-◌, ◌≤◌, Bool, true, false, ◌==◌, ◌&&◌, if◌then◌else◌, List, [], ◌∷◌, take, drop, filter, Option, Some, None}
use Rattle.std.specs.List.{list_any}
use Rattle.std.specs.List.Sorted.{IsStrictlyIncreasing}
use Rattle.mail_records.specs.Edits.{kind_of}
use Rattle.mail_records.specs.Histories.{History, Floors, floor_of, ids_of, end_of}
use Rattle.mail_records.specs.declared.edits.Edit.{Edit}
use Rattle.jm_base.specs.declared.identifiers.Id.{Id}
use Rattle.jm_base.specs.declared.identifiers.Kind.{Kind}
use Rattle.jm_base.specs.declared.identifiers.Kind.TheVariants.{Mailbox as OfMailbox, Email as OfEmail, Thread as OfThread}

-- the kinds are the same
abbrev pub is_kind : Kind → Kind → Bool
is_kind OfMailbox OfMailbox = true
is_kind OfEmail OfEmail = true
is_kind OfThread OfThread = true
is_kind _ _ = false

-- the id is that of a record of the kind
abbrev pub is_kind_of : Kind → Id → Bool
is_kind_of kind i = is_kind kind i.kind

-- the edits of a kind
abbrev pub edits_of_kind : Kind → List Edit → List Edit
edits_of_kind kind edits = filter (λ e. is_kind kind (kind_of e)) edits

-- the index of the last item that passes, counted from 1: from whether the first one does, and from
-- the index among the others
abbrev pub place_with : Bool → Option ℕ → Option ℕ
place_with first (Some n) = Some (n + 1)
place_with first None = if first then Some 1 else None

-- the index of the last item that passes, counted from 1
abbrev pub last_place : {A : Type 0} → (A → Bool) → List A → Option ℕ
last_place test [] = None
last_place test (x ∷ xs) = place_with (test x) (last_place test xs)

-- the position of an index: that many above the floor, or, if there is none, the position
-- `otherwise`
abbrev pub placed_above : ℕ → ℕ → Option ℕ → ℕ
placed_above floor otherwise (Some n) = floor + n
placed_above floor otherwise None = otherwise

-- The position of the last of these ids that is of the kind, where the first one has the position
-- floor + 1. Where none is, it is the kind's position at the floor.
abbrev pub last_position : Kind → ℕ → Floors → List Id → ℕ
last_position kind floor floors ids =
    placed_above floor (floor_of floors kind) (last_place (is_kind_of kind) ids)

-- the state of a kind at a position: the position of its last edit up to there, else its position
-- at the floor
abbrev pub state_at : History → Kind → ℕ → ℕ
state_at h kind k = last_position kind h.floor h.floors (take (k - h.floor) (ids_of h))

-- the state of a kind at the end
abbrev pub state_of : History → Kind → ℕ
state_of h kind = last_position kind h.floor h.floors (ids_of h)

-- what has been since this state of the kind is known
abbrev pub Reaches : History → Kind → ℕ → Type 0
Reaches h kind s = (floor_of h.floors kind ≤ s) × (s ≤ end_of h)

-- the id is that of this kind and number
abbrev pub is_id : Kind → ℕ → Id → Bool
is_id kind n i = is_kind_of kind i && i.number == n

-- these are exactly the numbers of the kind that the ids name, in number order
pub record AreNamed (kind : Kind) (ids : List Id) (numbers : List ℕ) : Type 0 where
  pub rise : IsStrictlyIncreasing numbers
  pub exactly : (n : ℕ) → list_any (λ x. x == n) numbers ≡ list_any (is_id kind n) ids

-- the ids that are after one position, up to another, where the first one has the position floor +
-- 1
abbrev pub ids_between : ℕ → ℕ → ℕ → List Id → List Id
ids_between floor from upto ids = drop (from - floor) (take (upto - floor) ids)

-- these are exactly the numbers that the kind's edits after one position, up to another, name
abbrev pub AreTouched : History → Kind → ℕ → ℕ → List ℕ → Type 0
AreTouched h kind from upto numbers =
    AreNamed kind (ids_between h.floor from upto (ids_of h)) numbers

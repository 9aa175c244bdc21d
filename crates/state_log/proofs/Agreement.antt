-- What a log says is what its history says.
use Rattle.std.proofs.Common.{◌≡◌, ℕ, ◌+◌, ◌-◌, ◌≤◌, List, [], ◌∷◌, map, take, length, refl, sym, ap, ap₂, ◌∙◌, subst}
use Rattle.std.proofs.lemmas.List.{length-map}
use Rattle.jm_base.specs.declared.identifiers.Id.{Id}
use Rattle.jm_base.specs.declared.identifiers.Kind.{Kind}
use Rattle.mail_records.specs.Edits.{id_of}
use Rattle.mail_records.specs.Histories.{History, Floors, floor_of, edits_of, ids_of, end_of}
use Rattle.mail_records.specs.States.{last_position, state_of, state_at, Reaches, AreNamed, AreTouched, ids_between}
use Rattle.mail_records.specs.declared.edits.Edit.{Edit}
use Rattle.state_log.specs.Logs.{Notes, IsLogOf, ids_in, log_end, note_of}

-- notes of edits name what the edits name
pub ids_in-notes : (edits : List Edit) → ids_in (map note_of edits) ≡ map id_of edits
ids_in-notes [] = refl
ids_in-notes (e ∷ es) = ap (λ is. id_of e ∷ is) (ids_in-notes es)

pub ids_in-log : (h : History) (l : Notes) → IsLogOf h l → ids_in l.notes ≡ ids_of h
ids_in-log h l is = ap ids_in is.notes ∙ ids_in-notes (edits_of h)

-- the end of a log is that of its history
pub log_end-of : (h : History) (l : Notes) → IsLogOf h l → log_end l ≡ end_of h
log_end-of h l is = ap₂ (λ a b. a + b) is.floor (ap length is.notes ∙ length-map (edits_of h) note_of)

-- what `state_of` answers is the state at the end
pub state_of-log : (h : History) (l : Notes) (kind : Kind) → IsLogOf h l → last_position kind l.floor l.floors (ids_in l.notes) ≡ state_of h kind
state_of-log h l kind is =
    ap (λ (ids : List Id). last_position kind l.floor l.floors ids) (ids_in-log h l is)
    ∙ ap₂ (λ (floor : ℕ) (floors : Floors). last_position kind floor floors (ids_of h)) is.floor is.floors

-- what `state_at` answers is the state at the position
pub state_at-log : (h : History) (l : Notes) (kind : Kind) (k : ℕ) → IsLogOf h l → last_position kind l.floor l.floors (take (k - l.floor) (ids_in l.notes)) ≡ state_at h kind k
state_at-log h l kind k is =
    ap (λ (ids : List Id). last_position kind l.floor l.floors (take (k - l.floor) ids)) (ids_in-log h l is)
    ∙ ap₂ (λ (floor : ℕ) (floors : Floors). last_position kind floor floors (take (k - floor) (ids_of h))) is.floor is.floors

-- what `reaches` answers is whether the history reaches the position
pub Reaches-log : (h : History) (l : Notes) (kind : Kind) (s : ℕ) → IsLogOf h l → (floor_of l.floors kind ≤ s) × (s ≤ log_end l) → Reaches h kind s
Reaches-log h l kind s is reached = (
  subst (λ (floors : Floors). floor_of floors kind ≤ s) is.floors reached.0,
  subst (λ (n : ℕ). s ≤ n) (log_end-of h l is) reached.1,
)

pub Reaches-history : (h : History) (l : Notes) (kind : Kind) (s : ℕ) → IsLogOf h l → Reaches h kind s → (floor_of l.floors kind ≤ s) × (s ≤ log_end l)
Reaches-history h l kind s is reached = (
  subst (λ (floors : Floors). floor_of floors kind ≤ s) (sym is.floors) reached.0,
  subst (λ (n : ℕ). s ≤ n) (sym (log_end-of h l is)) reached.1,
)

-- what `touched` answers is what the history's edits touched
pub AreTouched-log : (h : History) (l : Notes) (kind : Kind) (from upto : ℕ) (numbers : List ℕ) → IsLogOf h l → AreNamed kind (ids_between l.floor from upto (ids_in l.notes)) numbers → AreTouched h kind from upto numbers
AreTouched-log h l kind from upto numbers is named =
    subst (λ (ids : List Id). AreNamed kind ids numbers)
    (ap₂ (λ (floor : ℕ) (ids : List Id). ids_between floor from upto ids) is.floor (ids_in-log h l is)) named

-- States and edits of the account after some of its entries, and of the whole account.
use Rattle.std.proofs.Common.{◌≡◌, ℕ, ◌+◌, ◌-◌, ◌<◌, ◌≤◌, Bool, true, false, if◌then◌else◌, List, [], ◌∷◌, ◌++◌, take, drop, map, length, Option, Some, None, refl, sym, ap, ◌∙◌, subst, arith, take-append-drop}
use Rattle.std.proofs.lemmas.List.{map-append, take-append-le, take-take, length-map}
use Rattle.jm_base.specs.declared.identifiers.Id.{Id}
use Rattle.jm_base.specs.declared.identifiers.Kind.{Kind}
use Rattle.mail_records.specs.Contents.{SameRecords}
use Rattle.mail_records.specs.Edits.{id_of, kind_of}
use Rattle.mail_records.specs.FloorMoves.{moved_up}
use Rattle.mail_records.specs.Histories.{History, Entry, Floors, FloorsAtMost, account_after, content_at, edits_between, edits_in, edits_of, end_after, floor_of, grown_by, ids_of}
use Rattle.mail_records.specs.States.{edits_of_kind, ids_between, is_kind, is_kind_of, last_place, last_position, place_with, placed_above, state_at, state_of}
use Rattle.mail_records.specs.declared.edits.Edit.{Edit}
use Rattle.mail_records.proofs.Growth.{edits_of-grown_by}
use Rattle.mail_records.proofs.Prefixes.{edits_of-account_after}
use Rattle.mail_records.proofs.Reached.{last_position-bounds, state_at-state_at}
use Rattle.mail_records.proofs.Settled.{SameRecords-same_state, last_place-append, later, place_bounds}

-- ---- states don't fall

-- the last position among more ids is no lesser one
later_position : (kind : Kind) (floor : ℕ) (floors : Floors) (xs ys : List Id) (o : Option ℕ) → FloorsAtMost floors floor → last_place (is_kind_of kind) ys ≡ o
    → last_position kind floor floors xs ≤ last_position kind floor floors (xs ++ ys)
later_position kind floor floors xs ys None low is =
    let same : last_position kind floor floors (xs ++ ys) ≡ last_position kind floor floors xs =
    ap (placed_above floor (floor_of floors kind)) (last_place-append (is_kind_of kind) xs ys ∙ ap (λ o. later (length xs) o (last_place (is_kind_of kind) xs)) is) in
    omega (arith, same)
later_position kind floor floors xs ys (Some m) low is =
    let same : last_position kind floor floors (xs ++ ys) ≡ floor + (length xs + m) =
    ap (placed_above floor (floor_of floors kind)) (last_place-append (is_kind_of kind) xs ys ∙ ap (λ o. later (length xs) o (last_place (is_kind_of kind) xs)) is) in
    let high = (last_position-bounds kind floor floors xs low).1 in
    omega (arith, same, high)

prefix_of : {A : Type 0} (xs : List A) (a b : ℕ) → a ≤ b → take b xs ≡ take a xs ++ drop a (take b xs)
prefix_of xs a b le = sym (ap (λ zs. zs ++ drop a (take b xs)) (sym (take-take a b xs le)) ∙ take-append-drop a (take b xs))

pub state_at-rises : (h : History) (kind : Kind) (j k : ℕ) → FloorsAtMost h.floors h.floor → j ≤ k → state_at h kind j ≤ state_at h kind k
state_at-rises h kind j k low le =
    let a = j - h.floor in
    let b = k - h.floor in
    let ordered : a ≤ b = omega arith in
    subst (λ (zs : List Id). last_position kind h.floor h.floors (take a (ids_of h)) ≤ last_position kind h.floor h.floors zs)
    (sym (prefix_of (ids_of h) a b ordered))
    (later_position kind h.floor h.floors (take a (ids_of h)) (drop a (take b (ids_of h))) (last_place (is_kind_of kind) (drop a (take b (ids_of h)))) low refl)

-- ---- the account after some entries

ids_of-account_after : (h : History) (c : ℕ) → ids_of h ≡ ids_of (account_after h c) ++ map id_of (edits_in (drop c h.entries))
ids_of-account_after h c = ap (map id_of) (edits_of-account_after h c) ∙ map-append id_of (edits_of (account_after h c)) (edits_in (drop c h.entries))

first_ids : (h : History) (c k : ℕ) → k ≤ end_after h c → take (k - h.floor) (ids_of (account_after h c)) ≡ take (k - h.floor) (ids_of h)
first_ids h c k le =
    let n = length-map (edits_of (account_after h c)) id_of in
    sym (ap (take (k - h.floor)) (ids_of-account_after h c) ∙ take-append-le (k - h.floor) (ids_of (account_after h c)) (map id_of (edits_in (drop c h.entries))) (omega (arith, n, le)))

first_edits : (h : History) (c k : ℕ) → k ≤ end_after h c → take (k - h.floor) (edits_of (account_after h c)) ≡ take (k - h.floor) (edits_of h)
first_edits h c k le =
    sym (ap (take (k - h.floor)) (edits_of-account_after h c) ∙ take-append-le (k - h.floor) (edits_of (account_after h c)) (edits_in (drop c h.entries)) (omega (arith, le)))

pub state_at-account_after : (h : History) (kind : Kind) (c k : ℕ) → k ≤ end_after h c → state_at (account_after h c) kind k ≡ state_at h kind k
state_at-account_after h kind c k le = ap (last_position kind h.floor h.floors) (first_ids h c k le)

pub edits_between-account_after : (h : History) (c from upto : ℕ) → upto ≤ end_after h c → edits_between (account_after h c) from upto ≡ edits_between h from upto
edits_between-account_after h c from upto le = ap (drop (from - h.floor)) (first_edits h c upto le)

pub ids_between-account_after : (h : History) (c from upto : ℕ) → upto ≤ end_after h c
    → ids_between h.floor from upto (ids_of (account_after h c)) ≡ ids_between h.floor from upto (ids_of h)
ids_between-account_after h c from upto le = ap (drop (from - h.floor)) (first_ids h c upto le)

-- the other entries make it the whole account again
pub grown_by-account_after : (h : History) (c : ℕ) → grown_by (account_after h c) (drop c h.entries) ≡ h
grown_by-account_after h c = ap (λ (es : List Entry). record h { entries = es }) (take-append-drop c h.entries)

-- ---- edits of a kind, and the last place of one

kept_none : (b : Bool) (e : Edit) (es : List Edit) → (if b then e ∷ es else es) ≡ [] → (b ≡ false) × (es ≡ [])
kept_none true e es h = absurd (cc)
kept_none false e es h = (refl, h)

pub with_none : (b : Bool) (o : Option ℕ) → place_with b o ≡ None → (b ≡ false) × (o ≡ None)
with_none true None h = absurd (cc)
with_none false None h = (refl, refl)
with_none b (Some n) h = absurd (cc)

none_placed : (kind : Kind) (es : List Edit) → edits_of_kind kind es ≡ [] → last_place (is_kind_of kind) (map id_of es) ≡ None
none_placed kind [] h = refl
none_placed kind (e ∷ es) h =
    let parts = kept_none (is_kind kind (kind_of e)) e (edits_of_kind kind es) h in
    ap (place_with (is_kind kind (kind_of e))) (none_placed kind es parts.1) ∙ ap (λ b. place_with b None) parts.0

none_kept : (kind : Kind) (es : List Edit) → last_place (is_kind_of kind) (map id_of es) ≡ None → edits_of_kind kind es ≡ []
none_kept kind [] h = refl
none_kept kind (e ∷ es) h =
    let parts = with_none (is_kind kind (kind_of e)) (last_place (is_kind_of kind) (map id_of es)) h in
    ap (λ b. if b then e ∷ edits_of_kind kind es else edits_of_kind kind es) parts.0 ∙ none_kept kind es parts.1

abbrev pub place_in : Kind → List Edit → Option ℕ
place_in kind es = last_place (is_kind_of kind) (map id_of es)

state_of-grown_by : (h : History) (kind : Kind) (more : List Entry) → state_of (grown_by h more) kind
    ≡ placed_above h.floor (floor_of h.floors kind) (later (length (ids_of h)) (place_in kind (edits_in more)) (place_in kind (edits_of h)))
state_of-grown_by h kind more =
    ap (last_position kind h.floor h.floors) (ap (map id_of) (edits_of-grown_by h more) ∙ map-append id_of (edits_of h) (edits_in more))
    ∙ ap (placed_above h.floor (floor_of h.floors kind)) (last_place-append (is_kind_of kind) (ids_of h) (map id_of (edits_in more)))

pub state_of-unchanged : (h : History) (kind : Kind) (more : List Entry) → edits_of_kind kind (edits_in more) ≡ [] → state_of (grown_by h more) kind ≡ state_of h kind
state_of-unchanged h kind more none =
    state_of-grown_by h kind more
    ∙ ap (λ o. placed_above h.floor (floor_of h.floors kind) (later (length (ids_of h)) o (place_in kind (edits_of h)))) (none_placed kind (edits_in more) none)

rises : (h : History) (kind : Kind) (more : List Entry) (o : Option ℕ) → FloorsAtMost h.floors h.floor → (edits_of_kind kind (edits_in more) ≡ [] → ⊥) → place_in kind (edits_in more) ≡ o
    → state_of h kind < state_of (grown_by h more) kind
rises h kind more None low some is = absurd (some (none_kept kind (edits_in more) is))
rises h kind more (Some n) low some is =
    let first = (place_bounds (is_kind_of kind) (map id_of (edits_in more)) n is).0 in
    let high = (last_position-bounds kind h.floor h.floors (ids_of h) low).1 in
    let new : state_of (grown_by h more) kind ≡ h.floor + (length (ids_of h) + n) =
    state_of-grown_by h kind more ∙ ap (λ o. placed_above h.floor (floor_of h.floors kind) (later (length (ids_of h)) o (place_in kind (edits_of h)))) is in
    omega (arith, first, high, new)

pub state_of-rises : (h : History) (kind : Kind) (more : List Entry) → FloorsAtMost h.floors h.floor → (edits_of_kind kind (edits_in more) ≡ [] → ⊥) → state_of h kind < state_of (grown_by h more) kind
state_of-rises h kind more low some = rises h kind more (place_in kind (edits_in more)) low some refl

-- ---- below a floor that moved up

pub SameRecords-moved_up : (h : History) (kind : Kind) (c k : ℕ) → FloorsAtMost h.floors h.floor → state_at h kind (end_after h c) ≤ k → k ≤ end_after h c
    → SameRecords kind (content_at (moved_up h c) k) (content_at h k)
SameRecords-moved_up h kind c k low from upto =
    let f = end_after h c in
    let here : k - f ≡ 0 = omega (arith, upto) in
    let again = state_at-state_at h kind f low in
    let above = state_at-rises h kind (state_at h kind f) k low from in
    let below = state_at-rises h kind k f low upto in
    let same : state_at h kind k ≡ state_at h kind f = omega (arith, again, above, below) in
    let moved : content_at (moved_up h c) k ≡ content_at h f = base_alone (moved_up h c) k (omega (arith, upto)) in
    subst (λ d. SameRecords kind d (content_at h k)) (sym moved) (SameRecords-same_state h kind k f low upto same)
  where
    base_alone : (g : History) (n : ℕ) → n ≤ g.floor → content_at g n ≡ g.base
    base_alone g n le = let none : n - g.floor ≡ 0 = omega (arith, le) in ap (λ m. Rattle.mail_records.specs.Edits.after_edits g.base (take m (edits_of g))) none

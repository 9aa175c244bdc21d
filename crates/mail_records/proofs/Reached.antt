-- The state of a kind at a position is a position from the kind's floor position to the end, and its own state.
use Rattle.std.proofs.Common.{◌≡◌, ℕ, ◌+◌, ◌-◌, ◌≤◌, Bool, true, false, List, [], ◌∷◌, take, drop, map, length, Option, Some, None, suc, refl, sym, ap, ◌∙◌, subst, arith}
use Rattle.std.proofs.lemmas.List.{take-map, take-take, take_all, length-map, length-take}
use Rattle.jm_base.specs.declared.identifiers.Id.{Id}
use Rattle.jm_base.specs.declared.identifiers.Kind.{Kind}
use Rattle.mail_records.specs.Edits.{id_of}
use Rattle.mail_records.specs.Histories.{History, Floors, FloorsAtMost, floor_of, edits_of, edits_in, ids_of, end_of, account_after, end_after}
use Rattle.mail_records.specs.States.{is_kind_of, last_place, place_with, placed_above, last_position, state_at, state_of, Reaches}
use Rattle.mail_records.proofs.Settled.{place_bounds, placed_low, floor_low}
use Rattle.mail_records.proofs.Prefixes.{edits_of-account_after, front_of}

-- the first items are at most so many, and at most all
pub length_take : {A : Type 0} (n : ℕ) (xs : List A) → (length (take n xs) ≤ n) × (length (take n xs) ≤ length xs)
length_take n xs = let e = length-take n xs in (grind arith, grind arith)

placed_high : (floor otherwise : ℕ) → otherwise ≤ floor → (o : Option ℕ) → otherwise ≤ placed_above floor otherwise o
placed_high floor otherwise le (Some n) = omega arith
placed_high floor otherwise le None = omega arith

-- a last position is from the kind's floor position to the position of the last id
pub last_position-bounds : (kind : Kind) (floor : ℕ) (floors : Floors) (ids : List Id) → FloorsAtMost floors floor
    → (floor_of floors kind ≤ last_position kind floor floors ids) × (last_position kind floor floors ids ≤ floor + length ids)
last_position-bounds kind floor floors ids low =
    let g = floor_low kind floors floor low in (
      placed_high floor (floor_of floors kind) g (last_place (is_kind_of kind) ids),
      placed_low (is_kind_of kind) ids floor (floor_of floors kind) g (last_place (is_kind_of kind) ids) refl,
    )

-- a state is reached
pub Reaches-state_at : (h : History) (kind : Kind) (k : ℕ) → FloorsAtMost h.floors h.floor → Reaches h kind (state_at h kind k)
Reaches-state_at h kind k low =
    let b = last_position-bounds kind h.floor h.floors (take (k - h.floor) (ids_of h)) low in
    let first = b.0 in
    let last = b.1 in
    let short = (length_take (k - h.floor) (ids_of h)).1 in
    let same : length (ids_of h) ≡ length (edits_of h) = length-map (edits_of h) id_of in
    (first, omega arith)

pub Reaches-state_of : (h : History) (kind : Kind) → FloorsAtMost h.floors h.floor → Reaches h kind (state_of h kind)
Reaches-state_of h kind low =
    let b = last_position-bounds kind h.floor h.floors (ids_of h) low in
    let first = b.0 in
    let last = b.1 in
    let same : length (ids_of h) ≡ length (edits_of h) = length-map (edits_of h) id_of in
    (first, omega arith)

-- it is at most the position
pub state_at-most : (h : History) (kind : Kind) (k : ℕ) → FloorsAtMost h.floors h.floor → h.floor ≤ k → state_at h kind k ≤ k
state_at-most h kind k low le =
    let last = (last_position-bounds kind h.floor h.floors (take (k - h.floor) (ids_of h)) low).1 in
    let short = (length_take (k - h.floor) (ids_of h)).0 in
    omega arith

-- the state at the end
pub state_at-end : (h : History) (kind : Kind) → state_at h kind (end_of h) ≡ state_of h kind
state_at-end h kind =
    let same : length (ids_of h) ≡ length (edits_of h) = length-map (edits_of h) id_of in
    ap (last_position kind h.floor h.floors) (take_all (end_of h - h.floor) (ids_of h) (omega arith))

-- the state after some entries
pub state_at-end_after : (h : History) (kind : Kind) (c : ℕ) → state_at h kind (end_after h c) ≡ state_of (account_after h c) kind
state_at-end_after h kind c =
    let first = edits_of (account_after h c) in
    let n : end_after h c - h.floor ≡ length first = omega arith in
    ap (last_position kind h.floor h.floors)
    (take-map id_of (end_after h c - h.floor) (edits_of h)
    ∙ ap (map id_of)
    (ap (take (end_after h c - h.floor)) (edits_of-account_after h c) ∙ front_of first (edits_in (drop c h.entries)) (end_after h c - h.floor) n))

kept_step : {A : Type 0} (test : A → Bool) (x : A) (xs : List A) (n : ℕ) (o : Option ℕ) (b : Bool) → last_place test xs ≡ o → test x ≡ b → place_with b o ≡ Some n
    → ((m : ℕ) → last_place test xs ≡ Some m → last_place test (take m xs) ≡ Some m) → last_place test (take n (x ∷ xs)) ≡ Some n
kept_step test x xs n None false is here e kept = absurd (cc)
kept_step test x xs n None true is here e kept =
    let first : 1 ≡ n = cc in subst (λ k. last_place test (take k (x ∷ xs)) ≡ Some k) first (rw here refl)
kept_step test x xs n (Some m) b is here e kept =
    let more : m + 1 ≡ n = cc in
    let after : suc m ≡ n = omega arith in
    let sum : m + 1 ≡ suc m = omega arith in
    subst (λ k. last_place test (take k (x ∷ xs)) ≡ Some k) after (ap (place_with (test x)) (kept m is) ∙ ap Some sum)

-- the items up to the last one that passes have the same last place
place_kept : {A : Type 0} (test : A → Bool) (xs : List A) (n : ℕ) → last_place test xs ≡ Some n → last_place test (take n xs) ≡ Some n
place_kept test [] n e = absurd (cc)
place_kept test (x ∷ xs) n e = kept_step test x xs n (last_place test xs) (test x) refl refl e (place_kept test xs)

again : (kind : Kind) (floor : ℕ) (floors : Floors) (ids : List Id) (n : ℕ) (o : Option ℕ) → FloorsAtMost floors floor → last_place (is_kind_of kind) (take n ids) ≡ o
    → last_position kind floor floors (take (placed_above floor (floor_of floors kind) o - floor) ids) ≡ placed_above floor (floor_of floors kind) o
again kind floor floors ids n None low is =
    let g = floor_low kind floors floor low in
    let none : floor_of floors kind - floor ≡ 0 = omega arith in
    ap (λ m. last_position kind floor floors (take m ids)) none
again kind floor floors ids n (Some p) low is =
    let within = (place_bounds (is_kind_of kind) (take n ids) p is).1 in
    let short = (length_take n ids).0 in
    let le : p ≤ n = omega arith in
    let here : floor + p - floor ≡ p = omega arith in
    ap (λ m. last_position kind floor floors (take m ids)) here
    ∙ ap (placed_above floor (floor_of floors kind))
    (ap (last_place (is_kind_of kind)) (sym (take-take p n ids le)) ∙ place_kept (is_kind_of kind) (take n ids) p is)

-- the state at a state is that state
pub state_at-state_at : (h : History) (kind : Kind) (k : ℕ) → FloorsAtMost h.floors h.floor → state_at h kind (state_at h kind k) ≡ state_at h kind k
state_at-state_at h kind k low =
    again kind h.floor h.floors (ids_of h) (k - h.floor) (last_place (is_kind_of kind) (take (k - h.floor) (ids_of h))) low refl

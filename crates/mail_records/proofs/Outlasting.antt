-- As a history's floor moves up, each kind's edits and states from its new floor position on stay.
use Rattle.std.proofs.Common.{◌≡◌, ℕ, ◌+◌, ◌-◌, ◌≤◌, zero, suc, ltb, true, false, if◌then◌else◌, List, [], ◌∷◌, ◌++◌, take, drop, map, length, Option, Some, None, refl, sym, ap, ◌∙◌, arith, ⊎_elim}
use Rattle.std.proofs.Math.Seq.{drop-nil}
use Rattle.std.proofs.lemmas.Bool.{cases_Bool, ltb-true, ltb-false}
use Rattle.jm_base.specs.declared.identifiers.Kind.{Kind}
use Rattle.mail_records.specs.Edits.{id_of, kind_of}
use Rattle.mail_records.specs.FloorMoves.{moved_up}
use Rattle.mail_records.specs.Histories.{History, FloorsAtMost, account_after, edits_between, edits_of, end_after, floor_of, ids_of}
use Rattle.mail_records.specs.States.{edits_of_kind, is_kind, is_kind_of, last_position, place_with, placed_above, state_at}
use Rattle.mail_records.specs.declared.edits.Edit.{Edit}
use Rattle.mail_records.proofs.Moved.{edits_of-moved_up, floors_are, state_at-moved_up}
use Rattle.mail_records.proofs.Points.{place_in, state_at-rises, with_none}
use Rattle.mail_records.proofs.Reached.{state_at-end_after, state_at-state_at}
use Rattle.mail_records.proofs.Settled.{place_bounds}

-- where the last edit of a kind is at no index, there is none
place_none : (kind : Kind) (es : List Edit) (o : Option ℕ) → place_in kind es ≡ o → ((m : ℕ) → place_in kind es ≡ Some m → m ≤ zero) → place_in kind es ≡ None
place_none kind es None is low = is
place_none kind es (Some m) is low =
    let first = (place_bounds (is_kind_of kind) (map id_of es) m is).0 in
    let none = low m is in absurd (omega (arith, first, none))

same_part : (kind : Kind) (es : List Edit) (a b c d : ℕ) → a ≡ c → b ≡ d → edits_of_kind kind (drop a (take b es)) ≡ edits_of_kind kind (drop c (take d es))
same_part kind es a b c d one other =
    ap (λ n. edits_of_kind kind (drop n (take b es))) one ∙ ap (λ n. edits_of_kind kind (drop c (take n es))) other

-- Of two lists in a row, where the first has none of the kind after an index, those after it are
-- of the second list.
of_second : (kind : Kind) (xs ys : List Edit) (a b : ℕ) → ((m : ℕ) → place_in kind xs ≡ Some m → m ≤ a)
    → edits_of_kind kind (drop a (take b (xs ++ ys))) ≡ edits_of_kind kind (drop (a - length xs) (take (b - length xs) ys))
of_second kind [] ys a b low =
    same_part kind ys a b (a - zero) (b - zero) (let e : a ≡ a - zero = omega arith in e) (let e : b ≡ b - zero = omega arith in e)
of_second kind (x ∷ xs) ys a zero low =
    let none : zero - length (x ∷ xs) ≡ zero = omega arith in
    let all = a - length (x ∷ xs) in
    ap (edits_of_kind kind) (drop-nil a)
    ∙ sym (ap (λ n. edits_of_kind kind (drop all (take n ys))) none ∙ ap (edits_of_kind kind) (drop-nil all))
of_second kind (x ∷ xs) ys zero (suc b) low =
    let parts = with_none (is_kind kind (kind_of x)) (place_in kind xs) (place_none kind (x ∷ xs) (place_in kind (x ∷ xs)) refl low) in
    let rest = edits_of_kind kind (take b (xs ++ ys)) in
    let more : length (x ∷ xs) ≡ length xs + 1 = omega arith in
    ap (λ t. if t then x ∷ rest else rest) parts.0
    ∙ (of_second kind xs ys zero b (λ m is. absurd (none_some (place_in kind xs) m parts.1 is))
    ∙ same_part kind ys (zero - length xs) (b - length xs) (zero - length (x ∷ xs)) (suc b - length (x ∷ xs)) (omega (arith, more)) (omega (arith, more)))
  where
    none_some : (o : Option ℕ) (m : ℕ) → o ≡ None → o ≡ Some m → ⊥
    none_some o m p q = cc
of_second kind (x ∷ xs) ys (suc a) (suc b) low =
    let more : length (x ∷ xs) ≡ length xs + 1 = omega arith in
    of_second kind xs ys a b (λ m is. shorter m (low (m + 1) (ap (place_with (is_kind kind (kind_of x))) is)))
    ∙ same_part kind ys (a - length xs) (b - length xs) (suc a - length (x ∷ xs)) (suc b - length (x ∷ xs)) (omega (arith, more)) (omega (arith, more))
  where
    shorter : (m : ℕ) → m + 1 ≤ suc a → m ≤ a
    shorter m le = omega (arith, le)

-- the last edit of the kind before the new floor is at the kind's new floor position
pub edits_between-moved_up : (h : History) (kind : Kind) (c from upto : ℕ) → state_at h kind (end_after h c) ≤ from
    → edits_of_kind kind (edits_between (moved_up h c) from upto) ≡ edits_of_kind kind (edits_between h from upto)
edits_between-moved_up h kind c from upto le =
    let first = edits_of (account_after h c) in
    let rest = edits_of (moved_up h c) in
    let bound : (m : ℕ) → place_in kind first ≡ Some m → m ≤ from - h.floor =
    λ m is.
    let at : state_at h kind (end_after h c) ≡ h.floor + m = state_at-end_after h kind c ∙ ap (placed_above h.floor (floor_of h.floors kind)) is in
    omega (arith, at, le) in
    same_part kind rest (from - end_after h c) (upto - end_after h c) (from - h.floor - length first) (upto - h.floor - length first) (omega arith) (omega arith)
    ∙ (sym (of_second kind first rest (from - h.floor) (upto - h.floor) bound)
    ∙ ap (λ es. edits_of_kind kind (drop (from - h.floor) (take (upto - h.floor) es))) (sym (edits_of-moved_up h c)))

-- below the new floor the state is that at it
state_below : (h : History) (kind : Kind) (c k : ℕ) → FloorsAtMost h.floors h.floor → state_at h kind (end_after h c) ≤ k → k ≤ end_after h c
    → state_at (moved_up h c) kind k ≡ state_at h kind k
state_below h kind c k low from upto =
    let f = end_after h c in
    let none : k - f ≡ zero = omega (arith, upto) in
    let again = state_at-state_at h kind f low in
    let above = state_at-rises h kind (state_at h kind f) k low from in
    let below = state_at-rises h kind k f low upto in
    let same : state_at h kind f ≡ state_at h kind k = omega (arith, again, above, below) in
    ap (λ n. last_position kind f (moved_up h c).floors (take n (ids_of (moved_up h c)))) none ∙ (floors_are h kind f ∙ same)

pub state_at-outlasts : (h : History) (kind : Kind) (c k : ℕ) → FloorsAtMost h.floors h.floor → state_at h kind (end_after h c) ≤ k
    → state_at (moved_up h c) kind k ≡ state_at h kind k
state_at-outlasts h kind c k low from =
    ⊎_elim
    (λ (lt : ltb k (end_after h c) ≡ true).
    let less = ltb-true k (end_after h c) lt in state_below h kind c k low from (omega (arith, less)))
    (λ (lt : ltb k (end_after h c) ≡ false).
    let most = ltb-false k (end_after h c) lt in state_at-moved_up h kind c k (omega (arith, most)))
    (cases_Bool (ltb k (end_after h c)))

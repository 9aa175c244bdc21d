-- Where a page ends, and the text of a state.
use Rattle.std.proofs.Common.{◌≡◌, ℕ, ◌-◌, ◌<◌, ◌≤◌, Bool, true, false, ◌&&◌, leb, ltb, List, [], ◌∷◌, drop, take, length, Option, Some, None, refl, sym, ap, ap₂, ◌∙◌, subst, arith, ⊎_elim, le-leb, length-drop, length-take}
use Rattle.std.specs.Prelude.{bytes_eq, unwrap_or}
use Rattle.std.proofs.lemmas.Bool.{cases_Bool, true≢false}
use Rattle.std.proofs.lemmas.Fmt.{decimal_injective}
use Rattle.std.proofs.lemmas.Slice.Eq.{bytes_eq-Decides}
use Rattle.jm_base.specs.Ids.{state_text}
use Rattle.jm_base.specs.declared.identifiers.TheConstants.{NUMBER_LIMIT}
use Rattle.jm_base.specs.declared.identifiers.Kind.{Kind}
use Rattle.mail_records.specs.Histories.{History, end_of, floor_of, ids_of}
use Rattle.mail_records.specs.States.{Reaches}
use Rattle.change_calls.specs.Changes.{is_state_of, is_within, may_end, numbers_with, page_end, reached_state, touched}
use Rattle.change_calls.specs.Pages.{IsPage}
use Rattle.change_calls.proofs.Greatest.{greatest_exists, greatest_is, greatest_none, greatest_passes}
use Rattle.change_calls.proofs.Named.{within_zero}

no_items : {A : Type 0} (n : ℕ) (xs : List A) → drop n (take n xs) ≡ []
no_items n xs = none (drop n (take n xs)) (let a = length-drop n (take n xs) in let b = length-take n xs in grind arith)
  where
    none : {A : Type 0} (ys : List A) → length ys ≡ 0 → ys ≡ []
    none [] e = refl
    none (y ∷ ys) e = absurd (omega arith)

-- nothing is named up to a position that is not above the floor or not later
pub touched_none : (h : History) (kind : Kind) (from upto : ℕ) → from - h.floor ≡ upto - h.floor → touched h kind from upto ≡ []
touched_none h kind from upto same =
    ap (numbers_with kind []) (ap (λ n. drop n (take (upto - h.floor) (ids_of h))) same ∙ no_items (upto - h.floor) (ids_of h))

and_first : (a b : Bool) → (a && b) ≡ true → a ≡ true
and_first true b h = refl
and_first false b h = absurd (true≢false (sym h))

and_second : (a b : Bool) → (a && b) ≡ true → b ≡ true
and_second true b h = h
and_second false b h = absurd (true≢false (sym h))

le_leb : (a b : ℕ) → leb a b ≡ true → a ≤ b
le_leb a b h = grind arith

pub IsPage-page_end : (h : History) (kind : Kind) (max : Option ℕ) (from : ℕ) → from ≤ end_of h → IsPage h kind max from (page_end h kind max from)
IsPage-page_end h kind max from le =
    let test = may_end h kind max from in
    let none : touched h kind from from ≡ [] = touched_none h kind from from refl in
    let first : test from ≡ true =
    ap₂ (λ a b. a && b) (le-leb from from (omega arith)) (ap (λ (ns : List ℕ). is_within max (length ns)) none ∙ within_zero max) in
    let found = greatest_exists test (end_of h) from le first in
    let p = found.0 in
    let is = found.1 in
    let later : from ≤ p = le_leb from p (and_first (leb from p) (is_within max (length (touched h kind from p))) is.passes) in
    let ends : p ≡ page_end h kind max from = sym (ap (λ o. unwrap_or o from) (greatest_is test (end_of h) p is)) in
    subst (IsPage h kind max from) ends
    (record {
      later = later;
      within = is.within;
      few = and_second (leb from p) (is_within max (length (touched h kind from p))) is.passes;
      greatest = λ k above below.
          sym (ap (λ b. b && is_within max (length (touched h kind from k))) (le-leb from k (omega arith))) ∙ is.greatest k above below;
    })

pub page_end-all : (h : History) (kind : Kind) (from : ℕ) → from ≤ end_of h → page_end h kind None from ≡ end_of h
page_end-all h kind from le =
    ap (λ o. unwrap_or o from)
    (greatest_is (may_end h kind None from) (end_of h) (end_of h)
    (record {
      within = omega arith;
      passes = ap (λ b. b && true) (le-leb from (end_of h) le);
      greatest = λ k above below. absurd (omega arith);
    }))

pub past_floor : (h : History) (kind : Kind) (max : Option ℕ) (from : ℕ) → from ≤ end_of h → h.floor ≤ page_end h kind max from
past_floor h kind max from le =
    let page = IsPage-page_end h kind max from le in
    let p = page_end h kind max from in
    ⊎_elim (λ (low : ltb p h.floor ≡ true). absurd (true≢false (below (is_low p h.floor low)))) (λ (high : ltb p h.floor ≡ false). is_high p h.floor high) (cases_Bool (ltb p h.floor))
  where
    is_low : (a b : ℕ) → ltb a b ≡ true → a < b
    is_low a b k = grind arith

    is_high : (a b : ℕ) → ltb a b ≡ false → b ≤ a
    is_high a b k = grind arith

    below : page_end h kind max from < h.floor → true ≡ false
    below lt =
        let page = IsPage-page_end h kind max from le in
        let later = page.later in
        let none : touched h kind from h.floor ≡ [] = touched_none h kind from h.floor (omega arith) in
        sym (ap (λ (ns : List ℕ). is_within max (length ns)) none ∙ within_zero max) ∙ page.greatest h.floor lt (omega arith)

-- ---- the text of a state

-- the tests that a text is that of a state
pub is_state_of-state : (h : History) (kind : Kind) (text : List ℕ) (s : ℕ) → floor_of h.floors kind ≤ s → s < NUMBER_LIMIT → text ≡ state_text s → is_state_of h kind text s ≡ true
is_state_of-state h kind text s low lt same =
    ap₂ (λ a b. a && b) (le-leb (floor_of h.floors kind) s low)
    (ap₂ (λ a b. a && b) (lt_ltb s NUMBER_LIMIT lt) ((bytes_eq-Decides text (state_text s)).1 same))
  where
    lt_ltb : (a b : ℕ) → a < b → ltb a b ≡ true
    lt_ltb a b k = grind arith

pub is_state_of-parts : (h : History) (kind : Kind) (text : List ℕ) (s : ℕ) → is_state_of h kind text s ≡ true → (floor_of h.floors kind ≤ s) × (s < NUMBER_LIMIT) × (text ≡ state_text s)
is_state_of-parts h kind text s pass =
    let low = leb (floor_of h.floors kind) s in
    let lt = ltb s NUMBER_LIMIT in
    let named = bytes_eq text (state_text s) in
    let rest = and_second low (lt && named) pass in (
      le_leb (floor_of h.floors kind) s (and_first low (lt && named) pass),
      ltb_lt s NUMBER_LIMIT (and_first lt named rest),
      (bytes_eq-Decides text (state_text s)).0 (and_second lt named rest),
    )
  where
    ltb_lt : (a b : ℕ) → ltb a b ≡ true → a < b
    ltb_lt a b k = grind arith

-- one state has the text
one_state : (text : List ℕ) (s k : ℕ) → s < NUMBER_LIMIT → k < NUMBER_LIMIT → text ≡ state_text s → text ≡ state_text k → k ≡ s
one_state text s k lt below same other = decimal_injective k s (omega arith) (omega arith) (sym other ∙ same)

other_fails : (b : Bool) → (b ≡ true → ⊥) → b ≡ false
other_fails true h = absurd (h refl)
other_fails false h = refl

pub reached_state-read : (h : History) (kind : Kind) (text : List ℕ) (s : ℕ) → Reaches h kind s → s < NUMBER_LIMIT → text ≡ state_text s → reached_state h kind text ≡ Some s
reached_state-read h kind text s reaches lt same =
    greatest_is (is_state_of h kind text) (end_of h) s
    (record {
      within = reaches.1;
      passes = is_state_of-state h kind text s reaches.0 lt same;
      greatest = λ k above below.
          other_fails (is_state_of h kind text k)
          (λ pass.
          let parts = is_state_of-parts h kind text k pass in
          let one = one_state text s k lt parts.1 same parts.2 in
          absurd (omega arith));
    })

pub reached_state-none : (h : History) (kind : Kind) (text : List ℕ) → ((s : ℕ) → Reaches h kind s → s < NUMBER_LIMIT → text ≡ state_text s → ⊥) → reached_state h kind text ≡ None
reached_state-none h kind text none =
    greatest_none (is_state_of h kind text) (end_of h)
    (λ k le. other_fails (is_state_of h kind text k) (λ pass. let parts = is_state_of-parts h kind text k pass in none k (parts.0, le) parts.1 parts.2))

pub reached_state-parts : (h : History) (kind : Kind) (text : List ℕ) (s : ℕ) → reached_state h kind text ≡ Some s → Reaches h kind s × (s < NUMBER_LIMIT) × (text ≡ state_text s)
reached_state-parts h kind text s is =
    let pass = greatest_passes (is_state_of h kind text) (end_of h) s is in
    let parts = is_state_of-parts h kind text s pass.1 in
    ((parts.0, pass.0), parts.1, parts.2)

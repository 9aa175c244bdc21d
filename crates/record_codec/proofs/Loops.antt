-- What the loops of reading keep.
use Rattle.std.proofs.Common.{◌≡◌, ℕ, zero, suc, ◌-◌, ◌+◌, ◌≤◌, ◌<◌, min, Bool, true, false, cond, ltb, eqb, List, [], ◌∷◌, ◌++◌, length, drop, get_or, slice_get, Option, None, Some, Ok, Err, refl, sym, ap, ◌∙◌, append_assoc, arith, length-drop, drop-cons, add-one, inl, inr}
use Rattle.std.proofs.lemmas.Bool.{cases_lt, lt-ltb, le-ltb, ne_eqb}
use Rattle.std.proofs.lemmas.List.{append-nil, nil_from_length, drop-drop}
use Rattle.record_codec.specs.declared.utf8.CharacterRest.{CharacterRest}
use Rattle.record_codec.specs.declared.read_texts.TextRest.{TextRest}
use Rattle.record_codec.specs.declared.faults.Misread.{Misread}
use Rattle.record_codec.specs.declared.faults.Misread.TheVariants as faults
use Rattle.record_codec.specs.NextBytes.{start, after_byte, less_of, rise_cost, least_length, can_rise, last_turn, turns, text_rest_after, on_some, left_in_text}
use Rattle.record_codec.specs.Readers.{rising_text, next_text}
use Rattle.record_codec.specs.Reading.{Read, ◌>>=◌, Fails, items_at}

-- the byte at a place, and those after it
pub byte_there : (bytes : List ℕ) (at b : ℕ) → at < length bytes → get_or bytes at 0 ≡ b → drop at bytes ≡ b ∷ drop (at + 1) bytes
byte_there bytes at b lt is = rw (add-one at, ← is) (drop-cons bytes at 0 lt)

not_zero : (n : ℕ) → suc n ≡ 0 → ⊥
not_zero n e = omega (arith, e)

-- ---- the least length of a greater text
pub less_suc : (c m : ℕ) → less_of (suc c) m ≡ min (suc c) m
less_suc c m = rw (ne_eqb (suc c) 0 (not_zero c)) refl

pub less_bound : (c m : ℕ) → 1 ≤ m → (1 ≤ less_of c m) × (less_of c m ≤ m)
less_bound zero m h = (h, omega arith)
less_bound (suc c) m h = (omega (arith, less_suc c m), omega (arith, less_suc c m))

pub least_bound : (s : Option CharacterRest) (t : List ℕ) → (1 ≤ least_length s t) × (least_length s t ≤ length t + 1)
least_bound None t = (omega arith, omega arith)
least_bound (Some f) [] = (omega arith, omega arith)
least_bound (Some f) (b ∷ t) =
    let more = least_bound (after_byte f b) t in
    let one = less_bound (rise_cost f b) (least_length (after_byte f b) t + 1) (omega arith) in
    (one.0, omega (arith, one.1, more.1))

pub least_begins : (t : List ℕ) → min (0 + least_length (Some start) t) (length t + 1) ≡ least_length (Some start) t
least_begins t = omega (arith, (least_bound (Some start) t).1)

pub least_stops : (s : Option CharacterRest) (t : List ℕ) (at least total : ℕ) → least ≤ at + 1 → min (at + least_length s t) least ≡ total → least ≡ total
least_stops s t at least total le e = omega (arith, e, (least_bound s t).0)

-- what one more byte does to the least length up to here
step_of : (cost later at least total : ℕ) → at < least → min (at + less_of cost (later + 1)) least ≡ total → min (at + 1 + later) (at + less_of cost (least - at)) ≡ total
step_of zero later at least total lt e = omega (arith, e)
step_of (suc cost) later at least total lt e = omega (arith, e, less_suc cost (later + 1), less_suc cost (least - at))

less_le : (cost at least : ℕ) → at < least → at + less_of cost (least - at) ≤ least
less_le zero at least lt = omega arith
less_le (suc cost) at least lt = omega (arith, less_suc cost (least - at))

pub least_step : (f : CharacterRest) (text : List ℕ) (at least b : ℕ) (total : ℕ) → at < length text → get_or text at 0 ≡ b → at + 1 < least → least ≤ length text + 1
    → min (at + least_length (Some f) (drop at text)) least ≡ total
    → (at + less_of (rise_cost f b) (least - at) ≤ length text + 1) × (min (at + 1 + least_length (after_byte f b) (drop (at + 1) text)) (at + less_of (rise_cost f b) (least - at)) ≡ total)
least_step f text at least b total lt is more le e =
    let one : drop at text ≡ b ∷ drop (at + 1) text = byte_there text at b lt is in
    let e1 : min (at + less_of (rise_cost f b) (least_length (after_byte f b) (drop (at + 1) text) + 1)) least ≡ total = rw one at e in
    let below = less_le (rise_cost f b) at least (omega arith) in
    (omega (arith, below), step_of (rise_cost f b) (least_length (after_byte f b) (drop (at + 1) text)) at least total (omega arith) e1)

pub least_kept : (f : CharacterRest) (text : List ℕ) (at least total cost new : ℕ) (o : Option CharacterRest) → at < length text → at + 1 < least → cost ≡ rise_cost f (get_or text at 0) → new ≡ at + less_of cost (least - at)
    → o ≡ after_byte f (get_or text at 0) → (least ≤ length text + 1) × (min (at + least_length (Some f) (drop at text)) least ≡ total)
    → (new ≤ length text + 1) × (min (at + 1 + least_length o (drop (at + 1) text)) new ≡ total)
least_kept f text at least total cost new o lt more ec en eo e =
    rw (en, ec, eo) (least_step f text at least (get_or text at 0) total lt refl more e.0 e.1)

pub least_none : (text : List ℕ) (at least total : ℕ) → at < length text → least ≤ length text + 1 → min (at + 1 + least_length None (drop (at + 1) text)) least ≡ total → least ≡ total
least_none text at least total lt le e = omega (arith, e, length-drop (at + 1) text)

-- ---- where a text can turn
abbrev pub from_here : ℕ → ℕ → ℕ → ℕ
from_here at turn later = cond (eqb later 0) turn (at + later)

turn_of : (rises : Bool) (at turn later total : ℕ) → from_here at turn (last_turn rises later) ≡ total → from_here (at + 1) (cond rises (at + 1) turn) later ≡ total
turn_of true at turn zero total e = e
turn_of false at turn zero total e = e
turn_of rises at turn (suc later) total e =
    let e1 : at + (suc later + 1) ≡ total = rw (ne_eqb (suc later) 0 (not_zero later), ne_eqb (suc later + 1) 0 (λ z. omega (arith, z))) at e in
    rw (ne_eqb (suc later) 0 (not_zero later)) (omega (arith, e1))

pub turns_step : (f : CharacterRest) (text : List ℕ) (room at turn b total : ℕ) → at < length text → get_or text at 0 ≡ b → ¬ (room - at ≡ 0)
    → from_here at turn (turns (Some f) (room - at) (drop at text)) ≡ total
    → from_here (at + 1) (cond (can_rise f (room - at) b) (at + 1) turn) (turns (after_byte f b) (room - (at + 1)) (drop (at + 1) text)) ≡ total
turns_step f text room at turn b total lt is n e =
    let one : drop at text ≡ b ∷ drop (at + 1) text = byte_there text at b lt is in
    let k : room - at ≡ suc (room - (at + 1)) = omega (arith, n) in
    let e1 : from_here at turn (last_turn (can_rise f (suc (room - (at + 1))) b) (turns (after_byte f b) (room - (at + 1)) (drop (at + 1) text))) ≡ total = rw (one, k) at e in
    rw k (turn_of (can_rise f (suc (room - (at + 1))) b) at turn (turns (after_byte f b) (room - (at + 1)) (drop (at + 1) text)) total e1)

pub turns_kept : (f : CharacterRest) (text : List ℕ) (room at turn total left new : ℕ) (rises : Bool) (o : Option CharacterRest) → at < length text → left ≡ room - at → ¬ (left ≡ 0)
    → rises ≡ can_rise f left (get_or text at 0) → new ≡ cond rises (at + 1) turn → o ≡ after_byte f (get_or text at 0)
    → from_here at turn (turns (Some f) (room - at) (drop at text)) ≡ total → from_here (at + 1) new (turns o (room - (at + 1)) (drop (at + 1) text)) ≡ total
turns_kept f text room at turn total left new rises o lt el n er en eo e =
    rw (en, er, eo, el) (turns_step f text room at turn (get_or text at 0) total lt refl (λ z. n (el ∙ z)) e)

pub turns_end : (f : CharacterRest) (text : List ℕ) (room at turn total : ℕ) → length text ≤ at → from_here at turn (turns (Some f) (room - at) (drop at text)) ≡ total → total ≡ cond (ltb at room) (at + 1) turn
turns_end f text room at turn total le e =
    let none : drop at text ≡ [] = nil_from_length (drop at text) (omega (arith, length-drop at text)) in
    elim (cases_lt at room) [
      | inl lt ↦
          let k : room - at ≡ suc (room - (at + 1)) = omega arith in
          let e1 : at + 1 ≡ total = rw (none, k) at e in
          rw (lt-ltb at room lt) (sym e1)
      | inr ge ↦
          let k : room - at ≡ 0 = omega arith in
          let e1 : turn ≡ total = rw (none, k) at e in
          rw (le-ltb at room ge) (sym e1)
    ]

pub turns_over : (f : CharacterRest) (text : List ℕ) (room at turn total : ℕ) → length text ≤ at → at ≤ length text → length text < room → from_here at turn (turns (Some f) (room - at) (drop at text)) ≡ total → length text + 1 ≡ total
turns_over f text room at turn total le ge lt e =
    let at_end : at ≡ length text = omega (arith, le, ge) in
    let t : total ≡ cond (ltb (length text) room) (length text + 1) turn = rw at_end at (turns_end f text room at turn total le e) in
    rw (lt-ltb (length text) room lt) at (sym t)

-- ---- what is rest_of_text of a text
get_first : (xs : List ℕ) (at : ℕ) → slice_get (drop at xs) 0 ≡ slice_get xs at
get_first [] zero = refl
get_first [] (suc at) = refl
get_first (x ∷ xs) zero = refl
get_first (x ∷ xs) (suc at) = get_first xs at

pub text_kept : (s : TextRest) (bound bytes : List ℕ) (at total : ℕ) (o : Option ℕ) (new : Option TextRest) → at < length bytes → o ≡ slice_get bound at → new ≡ text_rest_after s o (get_or bytes at 0)
    → left_in_text s (drop at bound) (drop at bytes) ≡ total → on_some new (length bytes - at) (λ t. left_in_text t (drop (at + 1) bound) (drop (at + 1) bytes)) ≡ total
text_kept s bound bytes at total o new lt eo en e =
    let one : drop at bytes ≡ get_or bytes at 0 ∷ drop (at + 1) bytes = byte_there bytes at (get_or bytes at 0) lt refl in
    let all : left_in_text s (drop at bound) (get_or bytes at 0 ∷ drop (at + 1) bytes) ≡ total = rw one at e in
    let there : slice_get (drop at bound) 0 ≡ o = get_first bound at ∙ sym eo in
    let later : drop 1 (drop at bound) ≡ drop (at + 1) bound = drop-drop 1 at bound in
    let long : suc (length (drop (at + 1) bytes)) ≡ length bytes - at = omega (arith, length-drop (at + 1) bytes, lt) in
    ap (λ a. on_some a (length bytes - at) (λ t. left_in_text t (drop (at + 1) bound) (drop (at + 1) bytes))) (en ∙ ap (λ p. text_rest_after s p (get_or bytes at 0)) (sym there))
    ∙ (λ i. on_some (text_rest_after s (slice_get (drop at bound) 0) (get_or bytes at 0)) (sym long i) (λ t. left_in_text t (sym later i) (drop (at + 1) bytes)))
    ∙ all

-- ---- lists
abbrev pub with_front : {A : Type 0} → List A → Read (List A) → Read (List A)
with_front front read = read >>= λ x. Ok (front ++ x.0, x.1)

regroup : {A : Type 0} (front : List A) (a : A) (read : Read (List A)) → with_front front (read >>= λ x. Ok (a ∷ x.0, x.1)) ≡ with_front (front ++ a ∷ []) read
regroup {A} front a (Ok x) = ap (λ (items : List A). Ok (items, x.1)) (sym (append_assoc front (a ∷ []) x.0))
regroup front a (Err left) = refl

module _ {S A : Type 0} (item : S → ℕ → List ℕ → Read A) (next : S → A → S) where
  pub goes_on : (front : List A) (count i : ℕ) (s : S) (bytes : List ℕ) (a : A) (after : List ℕ) (total : Read (List A)) → i < count → item s (count - (i + 1)) bytes ≡ Ok (a, after)
      → with_front front (items_at item next s (count - i) bytes) ≡ total → with_front (front ++ a ∷ []) (items_at item next (next s a) (count - (i + 1)) after) ≡ total
  goes_on front count i s bytes a after total lt h so_far =
      let k : count - i ≡ suc (count - (i + 1)) = omega arith in
      let one : with_front front (items_at item next s (count - i) bytes) ≡ with_front (front ++ a ∷ []) (items_at item next (next s a) (count - (i + 1)) after) = rw (k, h) (regroup front a (items_at item next (next s a) (count - (i + 1)) after)) in
      sym one ∙ so_far

  pub ends : (e : Misread) (front : List A) (count i : ℕ) (s : S) (bytes : List ℕ) (total : Read (List A)) → i < count → Fails e (item s (count - (i + 1)) bytes)
      → with_front front (items_at item next s (count - i) bytes) ≡ total → Fails e total
  ends faults.NoMemory front count i s bytes total lt h so_far = tt
  ends (faults.Stuck left) front count i s bytes total lt h so_far =
      let k : count - i ≡ suc (count - (i + 1)) = omega arith in
      let one : with_front front (items_at item next s (count - i) bytes) ≡ Err left = rw (k, h) refl in
      sym so_far ∙ one

  pub is_done : (front : List A) (count i : ℕ) (s : S) (bytes : List ℕ) (total : Read (List A)) → count ≤ i → with_front front (items_at item next s (count - i) bytes) ≡ total → total ≡ Ok (front, bytes)
  is_done front count i s bytes total le so_far =
      let k : count - i ≡ 0 = omega arith in
      let one : with_front front (items_at item next s (count - i) bytes) ≡ Ok (front, bytes) = rw k (ap (λ (items : List A). Ok (items, bytes)) (append-nil front)) in
      sym so_far ∙ one

-- the next text of a list that rises
pub text_more : (front items : List (List ℕ)) (count i : ℕ) (s : Bool × List ℕ) (bytes t kept bound after : List ℕ) (total : Read (List (List ℕ))) → i < count → rising_text s (count - (i + 1)) bytes ≡ Ok (t, after)
    → kept ≡ t → bound ≡ t → items ≡ front ++ kept ∷ [] → with_front front (items_at rising_text next_text s (count - i) bytes) ≡ total
    → with_front items (items_at rising_text next_text (true, bound) (count - (i + 1)) after) ≡ total
text_more front items count i s bytes t kept bound after total lt h ek eb ei so_far =
    let one = goes_on rising_text next_text front count i s bytes t after total lt h so_far in
    let e : items ≡ front ++ t ∷ [] = ei ∙ ap (λ (k : List ℕ). front ++ k ∷ []) ek in
    (λ j. with_front (e j) (items_at rising_text next_text (true, eb j) (count - (i + 1)) after)) ∙ one

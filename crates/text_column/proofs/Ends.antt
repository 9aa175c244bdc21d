-- The ends of texts, looked at by index.
use Rattle.std.proofs.Common.{◌≡◌, ℕ, zero, suc, ◌-◌, ◌<◌, ◌≤◌, List, [], ◌∷◌, length, get_or, refl, ap, sym, ◌∙◌, arith, None, Some}
use Rattle.std.specs.List.{slice_range}
use Rattle.std.proofs.lemmas.List.{get_or_default}
use Rattle.std.proofs.Math.ListN.{get_or-eq_default}
use Rattle.text_column.specs.declared.mark.Mark.{Mark}
use Rattle.text_column.specs.declared.mark.Mark.TheVariants.{HasNot, Has, Open}
use Rattle.text_column.specs.Columns.{text_in, texts_in, IsBlank, AreEnds, start_at}

pub as_many : (start : ℕ) (ends : List ℕ) (marks : List Mark) (size : ℕ) → AreEnds start ends marks size → length ends ≡ length marks
as_many start [] [] size h = refl
as_many start [] (m ∷ ms) size h = absurd h
as_many start (e ∷ es) [] size h = absurd h
as_many start (e ∷ es) (m ∷ ms) size h = ap suc (as_many e es ms size h.2)

pub text_count : (bytes : List ℕ) (start : ℕ) (ends : List ℕ) (marks : List Mark) (size : ℕ) → AreEnds start ends marks size
    → length (texts_in bytes start ends marks) ≡ length ends
text_count bytes start [] [] size h = refl
text_count bytes start [] (m ∷ ms) size h = absurd h
text_count bytes start (e ∷ es) [] size h = absurd h
text_count bytes start (e ∷ es) (m ∷ ms) size h = ap suc (text_count bytes e es ms size h.2)

-- where the text after the first one starts
start_after : (start e : ℕ) (es : List ℕ) (k : ℕ) → start_at start (e ∷ es) (suc k) ≡ start_at e es k
start_after start e es zero = refl
start_after start e es (suc k) = refl

-- the text with an index
pub text_by_index : (bytes : List ℕ) (start : ℕ) (ends : List ℕ) (marks : List Mark) (size : ℕ) → AreEnds start ends marks size
    → (k : ℕ) → k < length ends
    → get_or (texts_in bytes start ends marks) k None ≡ text_in bytes (start_at start ends k) (get_or ends k 0) (get_or marks k Open)
text_by_index bytes start [] marks size h k low = absurd (omega arith)
text_by_index bytes start (e ∷ es) [] size h k low = absurd h
text_by_index bytes start (e ∷ es) (m ∷ ms) size h zero low = refl
text_by_index bytes start (e ∷ es) (m ∷ ms) size h (suc k) low =
    text_by_index bytes e es ms size h.2 k (omega arith)
    ∙ ap (λ s. text_in bytes s (get_or es k 0) (get_or ms k Open)) (sym (start_after start e es k))

-- how a text with an index is within the bytes
pub record IsWithin (start : ℕ) (ends : List ℕ) (marks : List Mark) (size k : ℕ) : Type 0 where
  pub low : start ≤ start_at start ends k
  pub rises : start_at start ends k ≤ get_or ends k 0
  pub high : get_or ends k 0 ≤ size
  pub blank : IsBlank (start_at start ends k) (get_or ends k 0) (get_or marks k Open)

-- the end of all texts is not before their start
pub all_rise : (start : ℕ) (ends : List ℕ) (marks : List Mark) (size : ℕ) → AreEnds start ends marks size → start ≤ size
all_rise start [] [] size h = omega (arith, h)
all_rise start [] (m ∷ ms) size h = absurd h
all_rise start (e ∷ es) [] size h = absurd h
all_rise start (e ∷ es) (m ∷ ms) size h = let more : e ≤ size = all_rise e es ms size h.2 in omega (arith, h.0, more)

pub within : (start : ℕ) (ends : List ℕ) (marks : List Mark) (size : ℕ) → AreEnds start ends marks size
    → (k : ℕ) → k < length ends → IsWithin start ends marks size k
within start [] marks size h k low = absurd (omega arith)
within start (e ∷ es) [] size h k low = absurd h
within start (e ∷ es) (m ∷ ms) size h zero low = record {
  low = omega arith;
  rises = h.0;
  high = all_rise e es ms size h.2;
  blank = h.1;
}
within start (e ∷ es) (m ∷ ms) size h (suc k) low =
    let more = within e es ms size h.2 k (omega arith) in
    let same : start_at start (e ∷ es) (suc k) ≡ start_at e es k = start_after start e es k in
    record {
      low = omega (arith, more.low, h.0, same);
      rises = omega (arith, more.rises, same);
      high = more.high;
      blank = rw same more.blank;
    }

-- each text ends before a later one starts
pub ends_before : (start : ℕ) (ends : List ℕ) (marks : List Mark) (size : ℕ) → AreEnds start ends marks size
    → (j k : ℕ) → j < k → k < length ends → get_or ends j 0 ≤ start_at start ends k
ends_before start [] marks size h j k low high = absurd (omega arith)
ends_before start (e ∷ es) [] size h j k low high = absurd h
ends_before start (e ∷ es) (m ∷ ms) size h j zero low high = absurd (omega arith)
ends_before start (e ∷ es) (m ∷ ms) size h zero (suc k) low high =
    let same : start_at start (e ∷ es) (suc k) ≡ start_at e es k = start_after start e es k in
    omega (arith, same, (within e es ms size h.2 k (omega arith)).low)
ends_before start (e ∷ es) (m ∷ ms) size h (suc j) (suc k) low high =
    let same : start_at start (e ∷ es) (suc k) ≡ start_at e es k = start_after start e es k in
    omega (arith, same, ends_before e es ms size h.2 j k (omega arith) (omega arith))

-- the last text ends where all do
pub last_end : (start : ℕ) (ends : List ℕ) (marks : List Mark) (size : ℕ) → AreEnds start ends marks size → 0 < length ends
    → get_or ends (length ends - 1) 0 ≡ size
last_end start [] marks size h some = absurd (omega arith)
last_end start (e ∷ es) [] size h some = absurd h
last_end start (e ∷ []) (m ∷ []) size h some = h.2
last_end start (e ∷ []) (m ∷ n ∷ ms) size h some = absurd h.2
last_end start (e ∷ f ∷ es) (m ∷ ms) size h some =
    let count : length (e ∷ f ∷ es) - 1 ≡ suc (length (f ∷ es) - 1) = omega arith in
    ap (λ n. get_or (e ∷ f ∷ es) n 0) count ∙ last_end e (f ∷ es) ms size h.2 (omega arith)

-- where no text is, none has bytes
pub none_ends : (start : ℕ) (ends : List ℕ) (marks : List Mark) (size : ℕ) → AreEnds start ends marks size → length ends ≡ 0 → start ≡ size
none_ends start [] [] size h none = h
none_ends start [] (m ∷ ms) size h none = absurd h
none_ends start (e ∷ es) marks size h none = absurd (omega (arith, none))

-- there is no text past the last one
pub no_text : (bytes : List ℕ) (ends : List ℕ) (marks : List Mark) (size : ℕ) → AreEnds 0 ends marks size → (k : ℕ) → length ends ≤ k
    → get_or (texts_in bytes 0 ends marks) k None ≡ None
no_text bytes ends marks size h k past =
    let count : length (texts_in bytes 0 ends marks) ≡ length ends = text_count bytes 0 ends marks size h in
    let all : length (texts_in bytes 0 ends marks) ≤ k = omega (arith, count, past) in
    get_or-eq_default (texts_in bytes 0 ends marks) None all

-- a mark as the code reads it
pub read_mark : (marks : List Mark) (k : ℕ) (m : Mark) → k < length marks → m ≡ get_or marks k m → get_or marks k Open ≡ m
read_mark marks k m low is = get_or_default marks k Open m low ∙ sym is

-- a text that is left out
pub open_text : (bytes : List ℕ) (ends : List ℕ) (marks : List Mark) (size : ℕ) → AreEnds 0 ends marks size → (k : ℕ) → k < length ends
    → get_or marks k Open ≡ Open → get_or (texts_in bytes 0 ends marks) k None ≡ None
open_text bytes ends marks size h k low is = text_by_index bytes 0 ends marks size h k low ∙ ap (text_in bytes (start_at 0 ends k) (get_or ends k 0)) is

-- a text that is kept
kept : (bytes : List ℕ) (a b : ℕ) (m : Mark) → (m ≡ Open → ⊥) → text_in bytes a b m ≡ Some (slice_range bytes a b)
kept bytes a b HasNot is = refl
kept bytes a b Has is = refl
kept bytes a b Open is = absurd (is refl)

pub kept_text : (bytes : List ℕ) (ends : List ℕ) (marks : List Mark) (size : ℕ) → AreEnds 0 ends marks size → (k : ℕ) → k < length ends
    → (get_or marks k Open ≡ Open → ⊥) → get_or (texts_in bytes 0 ends marks) k None ≡ Some (slice_range bytes (start_at 0 ends k) (get_or ends k 0))
kept_text bytes ends marks size h k low is =
    text_by_index bytes 0 ends marks size h k low ∙ kept bytes (start_at 0 ends k) (get_or ends k 0) (get_or marks k Open) is

-- The byte offsets of each field are within the bytes.
use Rattle.std.proofs.Common.{◌≡◌, ℕ, zero, suc, ◌+◌, ◌<◌, ◌≤◌, Bool, true, false, cond, eqb, ◌&&◌, ltb, eqb-true, List, [], ◌∷◌, ◌++◌, length, get_or, refl, ap, sym, ◌∙◌, subst, arith, length-append}
use Rattle.std.specs.List.{All, onto_first}
use Rattle.std.proofs.lemmas.Bool.{true≢false}
use Rattle.std.proofs.lemmas.List.{get_or_append_left}
use Rattle.std.proofs.lemmas.List.Elements.{All-nil, All-cons}
use Rattle.mime_lines.specs.declared.field.Field.{Field}
use Rattle.mime_lines.specs.Lines.{lines, is_line_end, text}
use Rattle.mime_lines.specs.Fields.{body_at, body_of, header, next_goes_on, onto_next, joined, name_len, is_field, span_of, spans, fields_of}
use Rattle.mime_lines.specs.FieldOffsets.{IsWithin}

-- how many bytes some lines have
abbrev pub size : List (List ℕ) → ℕ
size [] = 0
size (l ∷ ls) = length l + size ls

size_onto_first : (b : ℕ) (ls : List (List ℕ)) → size (onto_first b ls) ≡ suc (size ls)
size_onto_first b [] = refl
size_onto_first b (l ∷ ls) = omega arith

pub size_lines : (bytes : List ℕ) → size (lines bytes) ≡ length bytes
size_lines [] = refl
size_lines (b ∷ bs) = elim (eqb b 10) as (λ v. size (cond v ((b ∷ []) ∷ lines bs) (onto_first b (lines bs))) ≡ suc (length bs)) [
  | true ↦ omega (arith, size_lines bs)
  | false ↦ size_onto_first b (lines bs) ∙ ap suc (size_lines bs)
]

size_header : (ls : List (List ℕ)) → size (header ls) ≤ size ls
size_header [] = omega arith
size_header (l ∷ ls) = elim (is_line_end l) as (λ v. size (cond v [] (l ∷ header ls)) ≤ length l + size ls) [
  | true ↦ omega arith
  | false ↦ omega (arith, size_header ls)
]

size_onto_next : (l : List ℕ) (gs : List (List ℕ)) → size (onto_next l gs) ≡ length l + size gs
size_onto_next l [] = refl
size_onto_next l (g ∷ gs) = omega (arith, length-append l g)

size_joined : (ls : List (List ℕ)) → size (joined ls) ≡ size ls
size_joined [] = refl
size_joined (l ∷ ls) = elim (next_goes_on ls) as (λ v. size (cond v (onto_next l (joined ls)) (l ∷ joined ls)) ≡ length l + size ls) [
  | true ↦ size_onto_next l (joined ls) ∙ ap (λ n. length l + n) (size_joined ls)
  | false ↦ ap (λ n. length l + n) (size_joined ls)
]

and_false : (p : Bool) → (p && false) ≡ false
and_false true = refl
and_false false = refl

-- a colon is before the line end at the end
colon_in_text : (l : List ℕ) (i : ℕ) → get_or l i 0 ≡ 58 → i < length (text l)
colon_in_text [] i h = absurd (omega arith)
colon_in_text (b ∷ []) zero h = rw h (omega arith)
colon_in_text (b ∷ []) (suc i) h = absurd (omega arith)
colon_in_text (b ∷ c ∷ []) zero h = rw h (omega arith)
colon_in_text (b ∷ c ∷ []) (suc zero) h = rw (h, and_false (eqb b 13)) (omega arith)
colon_in_text (b ∷ c ∷ []) (suc (suc i)) h = absurd (omega arith)
colon_in_text (b ∷ c ∷ d ∷ ds) zero h = omega arith
colon_in_text (b ∷ c ∷ d ∷ ds) (suc i) h = omega (arith, colon_in_text (c ∷ d ∷ ds) i h)

pub text-le : (l : List ℕ) → length (text l) ≤ length l
text-le [] = omega arith
text-le (b ∷ bs) = elim (is_line_end (b ∷ bs)) as (λ v. length (cond v [] (b ∷ text bs)) ≤ suc (length bs)) [
  | true ↦ omega arith
  | false ↦ omega (arith, text-le bs)
]

and_right : (p q : Bool) → (p && q) ≡ true → q ≡ true
and_right true q h = h
and_right false q h = absurd (true≢false (sym h))

pub colon_of_field : (l : List ℕ) → is_field l ≡ true → name_len l < length (text l)
colon_of_field l f =
    let colon : get_or l (name_len l) 0 ≡ 58 = eqb-true _ _ (and_right (ltb 0 (name_len l)) (eqb (get_or l (name_len l) 0) 58) f) in
    colon_in_text l (name_len l) colon

-- a field's offsets are within the bytes, as its lines are
span_within : (bytes l : List ℕ) (at : ℕ) → at + length l ≤ length bytes → is_field l ≡ true → IsWithin bytes (span_of at l)
span_within bytes l at h f =
    let inside : name_len l < length (text l) = colon_of_field l f in
    record {
      named = omega arith;
      ended = omega arith;
      inside = omega (arith, text-le l);
    }

pub spans_within : (bytes : List ℕ) (at : ℕ) (ls : List (List ℕ)) → at + size ls ≤ length bytes → All (IsWithin bytes) (spans at ls)
spans_within bytes at [] h = All-nil (IsWithin bytes)
spans_within bytes at (l ∷ ls) h =
    let later : All (IsWithin bytes) (spans (at + length l) ls) = spans_within bytes (at + length l) ls (omega arith) in
    elim (is_field l) as (λ v. is_field l ≡ v → All (IsWithin bytes) (cond v (span_of at l ∷ spans (at + length l) ls) (spans (at + length l) ls))) [
      | true ↦ λ f. All-cons (IsWithin bytes) (span_of at l) (spans (at + length l) ls) (span_within bytes l at (omega arith) f) later
      | false ↦ λ _. later
    ] refl

pub fields_within : (bytes : List ℕ) → All (IsWithin bytes) (fields_of bytes)
fields_within bytes = spans_within bytes 0 (joined (header (lines bytes)))
    (omega (arith, size_joined (header (lines bytes)), size_header (lines bytes), size_lines bytes))

-- so are the offsets of the first of them
pub first_within : (bytes : List ℕ) (first more : List Field) → first ++ more ≡ fields_of bytes → All (IsWithin bytes) first
first_within bytes first more e k d low =
    let longer : k < length (first ++ more) = omega (arith, length-append first more) in
    let all : All (IsWithin bytes) (first ++ more) = subst (All (IsWithin bytes)) (sym e) (fields_within bytes) in
    subst (IsWithin bytes) (get_or_append_left first more d k low) (all k d longer)

-- so is the offset where the body begins
body_inside : (at : ℕ) (ls : List (List ℕ)) → body_at at ls ≤ at + size ls
body_inside at [] = omega arith
body_inside at (l ∷ ls) = elim (is_line_end l) as (λ v. cond v (at + length l) (body_at (at + length l) ls) ≤ at + (length l + size ls)) [
  | true ↦ omega arith
  | false ↦ omega (arith, body_inside (at + length l) ls)
]

pub body_of-le : (bytes : List ℕ) → body_of bytes ≤ length bytes
body_of-le bytes = omega (arith, body_inside 0 (lines bytes), size_lines bytes)

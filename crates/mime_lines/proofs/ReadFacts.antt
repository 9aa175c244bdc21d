-- What is at a field's byte offsets is what its lines say.
use Rattle.std.proofs.Common.{◌≡◌, ℕ, zero, suc, ◌+◌, ◌-◌, ◌<◌, ◌≤◌, true, false, cond, eqb, List, [], ◌∷◌, ◌++◌, length, take, drop, map, refl, ap, sym, ◌∙◌, arith, append_assoc, length-drop}
use Rattle.std.specs.List.{concat, onto_first}
use Rattle.std.proofs.lemmas.List.{take-append-drop, drop_at, drop-drop, take-append-le, take_at}
use Rattle.mime_lines.specs.Lines.{lines, text, is_line_end}
use Rattle.mime_lines.specs.Fields.{header, joined, next_goes_on, onto_next, name_len, is_field, span_of, spans, fields_of}
use Rattle.mime_lines.specs.FieldOffsets.{name_in, value_in}
use Rattle.mime_lines.specs.FieldTexts.{FieldText, field_text_of, field_texts_of, field_texts, read_at}
use Rattle.mime_lines.proofs.SpanFacts.{text-le, colon_of_field}

-- the text of a line is a prefix of it
pub text_front : (l : List ℕ) → take (length (text l)) l ≡ text l
text_front [] = refl
text_front (b ∷ bs) = elim (is_line_end (b ∷ bs)) as (λ v. take (length (cond v [] (b ∷ text bs))) (b ∷ bs) ≡ cond v [] (b ∷ text bs)) [
  | true ↦ refl
  | false ↦ ap (λ t. b ∷ t) (text_front bs)
]

concat_onto : (b : ℕ) (ls : List (List ℕ)) → concat (onto_first b ls) ≡ b ∷ concat ls
concat_onto b [] = refl
concat_onto b (l ∷ ls) = refl

-- the lines are the bytes
pub concat_lines : (bytes : List ℕ) → concat (lines bytes) ≡ bytes
concat_lines [] = refl
concat_lines (b ∷ bs) = elim (eqb b 10) as (λ v. concat (cond v ((b ∷ []) ∷ lines bs) (onto_first b (lines bs))) ≡ b ∷ bs) [
  | true ↦ ap (λ t. b ∷ t) (concat_lines bs)
  | false ↦ concat_onto b (lines bs) ∙ ap (λ t. b ∷ t) (concat_lines bs)
]

concat_onto_next : (l : List ℕ) (gs : List (List ℕ)) → concat (onto_next l gs) ≡ l ++ concat gs
concat_onto_next l [] = refl
concat_onto_next l (g ∷ gs) = append_assoc l g (concat gs)

concat_joined : (ls : List (List ℕ)) → concat (joined ls) ≡ concat ls
concat_joined [] = refl
concat_joined (l ∷ ls) = elim (next_goes_on ls) as (λ v. concat (cond v (onto_next l (joined ls)) (l ∷ joined ls)) ≡ l ++ concat ls) [
  | true ↦ concat_onto_next l (joined ls) ∙ ap (λ t. l ++ t) (concat_joined ls)
  | false ↦ ap (λ t. l ++ t) (concat_joined ls)
]

-- the header is a prefix of the lines
concat_header : (ls : List (List ℕ)) → (more : List ℕ) × (concat ls ≡ concat (header ls) ++ more)
concat_header [] = ([], refl)
concat_header (l ∷ ls) = elim (is_line_end l) as (λ v. (more : List ℕ) × (concat (l ∷ ls) ≡ concat (cond v [] (l ∷ header ls)) ++ more)) [
  | true ↦ (concat (l ∷ ls), refl)
  | false ↦ let later = concat_header ls in (later.0, ap (λ t. l ++ t) later.1 ∙ sym (append_assoc l (concat (header ls)) later.0))
]

drop_both : (xs ys : List ℕ) (n : ℕ) → n ≤ length xs → drop n (xs ++ ys) ≡ drop n xs ++ ys
drop_both xs ys zero h = refl
drop_both [] ys (suc n) h = absurd (omega arith)
drop_both (x ∷ xs) ys (suc n) h = drop_both xs ys n (omega arith)

abbrev text_field : List ℕ → List ℕ → FieldText
text_field name value = record { name = name; value = value }

-- one field
read_one : (bytes l more : List ℕ) (at : ℕ) → drop at bytes ≡ l ++ more → is_field l ≡ true → read_at bytes (span_of at l) ≡ field_text_of l
read_one bytes l more at e f =
    let n = name_len l in
    let t = text l in
    let inside : n < length t = colon_of_field l f in
    let shorter : length t ≤ length l = text-le l in
    let whole : t ++ drop (length t) l ≡ l = ap (λ x. x ++ drop (length t) l) (sym (text_front l)) ∙ take-append-drop (length t) l in
    let rest = drop (length t) l ++ more in
    let front : drop at bytes ≡ t ++ rest = e ∙ ap (λ x. x ++ more) (sym whole) ∙ append_assoc t (drop (length t) l) more in
    let count : at + n - at ≡ n = omega arith in
    let behind : at + length t - (at + n + 1) ≡ length t - (n + 1) = omega arith in
    let places : at + n + 1 ≡ at + (n + 1) = omega arith in
    let left : length (drop (n + 1) t) ≡ length t - (n + 1) = length-drop (n + 1) t in
    let named : name_in bytes (span_of at l) ≡ take n l =
    ap (λ k. take k (drop at bytes)) count ∙ ap (take n) e ∙ take-append-le n l more (omega arith) in
    let valued : value_in bytes (span_of at l) ≡ drop (n + 1) t =
    ap (λ k. take k (drop (at + n + 1) bytes)) behind
    ∙ ap (λ k. take (length t - (n + 1)) (drop k bytes)) places
    ∙ ap (take (length t - (n + 1))) (sym (drop-drop (n + 1) at bytes) ∙ ap (drop (n + 1)) front ∙ drop_both t rest (n + 1) (omega arith))
    ∙ take_at (drop (n + 1) t) rest (length t - (n + 1)) left in
    ap (λ x. text_field x (value_in bytes (span_of at l))) named ∙ ap (text_field (take n l)) valued

read_all : (bytes more : List ℕ) (at : ℕ) (ls : List (List ℕ)) → drop at bytes ≡ concat ls ++ more → map (read_at bytes) (spans at ls) ≡ field_texts_of ls
read_all bytes more at [] e = refl
read_all bytes more at (l ∷ ls) e =
    let first : drop at bytes ≡ l ++ (concat ls ++ more) = e ∙ append_assoc l (concat ls) more in
    let rest : drop (at + length l) bytes ≡ concat ls ++ more =
    sym (drop-drop (length l) at bytes) ∙ ap (drop (length l)) first ∙ drop_at l (concat ls ++ more) (length l) refl in
    let later = read_all bytes more (at + length l) ls rest in
    elim (is_field l) as (λ v. is_field l ≡ v → map (read_at bytes) (cond v (span_of at l ∷ spans (at + length l) ls) (spans (at + length l) ls)) ≡ cond v (field_text_of l ∷ field_texts_of ls) (field_texts_of ls)) [
      | true ↦ λ f. ap (λ x. x ∷ map (read_at bytes) (spans (at + length l) ls)) (read_one bytes l (concat ls ++ more) at first f) ∙ ap (λ x. field_text_of l ∷ x) later
      | false ↦ λ _. later
    ] refl

pub fields_read : (bytes : List ℕ) → map (read_at bytes) (fields_of bytes) ≡ field_texts bytes
fields_read bytes =
    let ls = joined (header (lines bytes)) in
    let rest = concat_header (lines bytes) in
    read_all bytes rest.0 0 ls (sym (concat_lines bytes) ∙ rest.1 ∙ ap (λ x. x ++ rest.0) (sym (concat_joined (header (lines bytes)))))

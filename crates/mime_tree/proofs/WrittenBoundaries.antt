-- Numbered boundaries keep parts apart.
use Rattle.std.proofs.Common.{◌≡◌, ℕ, zero, suc, ◌+◌, ◌<◌, ◌≤◌, ◌^◌, Bool, true, false, cond, eqb, ◌&&◌, not, List, [], ◌∷◌, ◌++◌, length, Option, Some, None, codes, inl, inr, refl, sym, ap, subst, ◌∙◌, append_assoc, arith}
use Rattle.std.specs.Prelude.{option_map, unwrap_or}
use Rattle.std.specs.List.{AllByRecursion, flat_map, list_all, onto_first}
use Rattle.std.specs.Fmt.{decimal}
use Rattle.std.proofs.lemmas.Bool.{eqb-true, true≢false}
use Rattle.std.proofs.lemmas.List.{append-nil}
use Rattle.std.proofs.lemmas.List.Folds.{list_all-append}
use Rattle.mime_lines.specs.Lines.{lines, is_blank}
use Rattle.mime_lines.specs.Fields.{goes_on, is_name_byte}
use Rattle.mime_lines.specs.FieldTexts.{FieldText}
use Rattle.mime_lines.specs.Written.{crlf, field_line, fold, is_folded, is_inline, IsField}
use Rattle.mime_lines.proofs.Unfolds.{both_true, not_true, line_before, text_before}
use Rattle.mime_cut.specs.DelimiterLines.{after_prefix, dashes}
use Rattle.mime_cut.specs.WrittenPieces.{HasNoDelimiter, multipart_text}
use Rattle.mime_type.specs.HeadText.{HeadText, IsHead, cid_value, coding_value, disposition_value, field_if, language_value, location_value, part_fields}
use Rattle.mime_type.proofs.WrittenFields.{part_good}
use Rattle.mime_tree.specs.WrittenParts.{WrittenParts, none, leaf, multipart, message_text, body_text, part_texts, AreWritable}
use Rattle.mime_tree.specs.Boundaries.{boundary_start, boundary_text, multipart_count, AreNumbered, AreQuiet, AreFormed}
use Rattle.mime_tree.proofs.KnownLines.{is_digit, AreDigits, decimal_digits, digit_no, start, Marks, AreKnown, IsMild, mild_apart, known_wider}

-- ---- the lines of a head

onto_front : (b : ℕ) (ls ms : List (List ℕ)) → 0 < length ls → onto_first b (ls ++ ms) ≡ onto_first b ls ++ ms
onto_front b [] ms h = absurd (omega (arith, h))
onto_front b (l ∷ ls) ms h = refl

some_onto : (b : ℕ) (ls : List (List ℕ)) → 0 < length (onto_first b ls)
some_onto b [] = omega arith
some_onto b (l ∷ ls) = omega arith

some_lines : (x : List ℕ) → 0 < length (lines (x ++ crlf))
some_lines [] = omega arith
some_lines (b ∷ bs) = elim (eqb b 10) as (λ v. 0 < length (cond v ((b ∷ []) ∷ lines (bs ++ crlf)) (onto_first b (lines (bs ++ crlf))))) [
  | true ↦ omega arith
  | false ↦ some_onto b (lines (bs ++ crlf))
]

lines_both : (x rest : List ℕ) → lines (x ++ 13 ∷ 10 ∷ rest) ≡ lines (x ++ crlf) ++ lines rest
lines_both [] rest = refl
lines_both (b ∷ bs) rest =
    let ls = lines (bs ++ crlf) in
    let later = lines_both bs rest in
    elim (eqb b 10) as (λ v. cond v ((b ∷ []) ∷ lines (bs ++ 13 ∷ 10 ∷ rest)) (onto_first b (lines (bs ++ 13 ∷ 10 ∷ rest))) ≡ cond v ((b ∷ []) ∷ ls) (onto_first b ls) ++ lines rest) [
      | true ↦ ap (λ t. (b ∷ []) ∷ t) later
      | false ↦ ap (onto_first b) later ∙ onto_front b ls (lines rest) (some_lines bs)
    ]

known_both : (n low high : ℕ) (ls ms : List (List ℕ)) → AreKnown n low high ls → AreKnown n low high ms → AreKnown n low high (ls ++ ms)
known_both n low high [] ms h k = k
known_both n low high (l ∷ ls) ms h k = (h.0, known_both n low high ls ms h.1 k)

-- a text doesn't begin with a hyphen
abbrev is_bold : List ℕ → Bool
is_bold [] = true
is_bold (b ∷ bs) = not (eqb b 45)

-- nor does what follows an LF
abbrev is_calm : List ℕ → Bool
is_calm [] = true
is_calm (b ∷ bs) = cond (eqb b 10) (is_bold bs && is_calm bs) (is_calm bs)

abbrev tail_of : List (List ℕ) → List (List ℕ)
tail_of [] = []
tail_of (l ∷ ls) = ls

abbrev AreQuietLines : ℕ → List (List ℕ) → Type 0
AreQuietLines n ls = AllByRecursion (λ l. after_prefix (start n) l ≡ None) ls

bold_quiet : (n b : ℕ) (bs : List ℕ) → eqb b 45 ≡ false → after_prefix (start n) (b ∷ bs) ≡ None
bold_quiet n b bs h = rw h refl

tail_onto : (b : ℕ) (ls : List (List ℕ)) → tail_of (onto_first b ls) ≡ tail_of ls
tail_onto b [] = refl
tail_onto b (l ∷ ls) = refl

-- the lines of a text that begins with no hyphen, and those after its first line
quiet_lines : (n : ℕ) (t : List ℕ) → is_bold t ≡ true → AreQuietLines n (tail_of (lines t)) → AreQuietLines n (lines t)
quiet_lines n [] h k = tt
quiet_lines n (b ∷ bs) h k = elim (eqb b 10) as (λ v. AreQuietLines n (tail_of (cond v ((b ∷ []) ∷ lines bs) (onto_first b (lines bs)))) → AreQuietLines n (cond v ((b ∷ []) ∷ lines bs) (onto_first b (lines bs)))) [
  | true ↦ λ later. (bold_quiet n b [] (not_true (eqb b 45) h), later)
  | false ↦ λ later. first_onto (lines bs) later
] k
  where
    first_onto : (ls : List (List ℕ)) → AreQuietLines n (tail_of (onto_first b ls)) → AreQuietLines n (onto_first b ls)
    first_onto [] later = (bold_quiet n b [] (not_true (eqb b 45) h), tt)
    first_onto (l ∷ ls) later = (bold_quiet n b l (not_true (eqb b 45) h), later)

tail_quiet : (n : ℕ) (t : List ℕ) → is_calm t ≡ true → AreQuietLines n (tail_of (lines t))
tail_quiet n [] h = tt
tail_quiet n (b ∷ bs) h = elim (eqb b 10) as (λ v. cond v (is_bold bs && is_calm bs) (is_calm bs) ≡ true → AreQuietLines n (tail_of (cond v ((b ∷ []) ∷ lines bs) (onto_first b (lines bs))))) [
  | true ↦ λ k. let parts = both_true (is_bold bs) (is_calm bs) k in quiet_lines n bs parts.0 (tail_quiet n bs parts.1)
  | false ↦ λ k. subst (AreQuietLines n) (sym (tail_onto b (lines bs))) (tail_quiet n bs k)
] h

quiet_known : (n low high : ℕ) (ls : List (List ℕ)) → AreQuietLines n ls → AreKnown n low high ls
quiet_known n low high [] h = tt
quiet_known n low high (l ∷ ls) h = (inl h.0, quiet_known n low high ls h.1)

-- a folded value is calm, whatever calm text follows it
calm_value : (v rest : List ℕ) → is_folded v ≡ true → is_calm rest ≡ true → is_calm (v ++ rest) ≡ true
calm_value [] rest h k = k
calm_value (b ∷ bs) rest h k = elim (eqb b 10) as (λ v. cond v (goes_on bs && is_folded bs) (is_folded bs) ≡ true → cond v (is_bold (bs ++ rest) && is_calm (bs ++ rest)) (is_calm (bs ++ rest)) ≡ true) [
  | true ↦ λ e.
      let parts = both_true (goes_on bs) (is_folded bs) e in
      rw (bold bs parts.0, calm_value bs rest parts.1 k) refl
  | false ↦ λ e. calm_value bs rest e k
] h
  where
    blank_bold : (c : ℕ) → is_blank c ≡ true → not (eqb c 45) ≡ true
    blank_bold c h = elim (eqb c 45) as (λ v. eqb c 45 ≡ v → not v ≡ true) [
      | true ↦ λ e. absurd (true≢false (sym h ∙ ap is_blank (eqb-true c 45 e)))
      | false ↦ λ _. refl
    ] refl

    bold : (bs : List ℕ) → goes_on bs ≡ true → is_bold (bs ++ rest) ≡ true
    bold [] h = absurd (true≢false (sym h))
    bold (c ∷ cs) h = blank_bold c h

calm_inline : (t rest : List ℕ) → list_all is_inline t ≡ true → is_calm (t ++ rest) ≡ is_calm rest
calm_inline [] rest h = refl
calm_inline (b ∷ bs) rest h =
    let parts = both_true (is_inline b) (list_all is_inline bs) h in
    rw (not_true (eqb b 10) parts.0) (calm_inline bs rest parts.1)

name_inline : (t : List ℕ) → list_all is_name_byte t ≡ true → list_all is_inline t ≡ true
name_inline [] h = refl
name_inline (b ∷ bs) h =
    let parts = both_true (is_name_byte b) (list_all is_name_byte bs) h in
    rw (one b parts.0) (name_inline bs parts.1)
  where
    one : (b : ℕ) → is_name_byte b ≡ true → is_inline b ≡ true
    one b h = elim (eqb b 10) as (λ v. eqb b 10 ≡ v → not v ≡ true) [
      | true ↦ λ e. absurd (true≢false (sym h ∙ ap is_name_byte (eqb-true b 10 e)))
      | false ↦ λ _. refl
    ] refl

-- fields whose names begin with no hyphen
abbrev AllBold : List FieldText → Type 0
AllBold fs = AllByRecursion (λ (f : FieldText). is_bold f.name ≡ true) fs

abbrev AllGood : List FieldText → Type 0
AllGood fs = AllByRecursion IsField fs

bold_more : (t rest : List ℕ) → 0 < length t → is_bold t ≡ true → is_bold (t ++ rest) ≡ true
bold_more [] rest some h = absurd (omega (arith, some))
bold_more (b ∷ bs) rest some h = h

record IsCalmText (t : List ℕ) : Type 0 where
  bold : is_bold t ≡ true
  calm : is_calm t ≡ true

calm_fields : (fs : List FieldText) → AllGood fs → AllBold fs → IsCalmText (flat_map field_line fs ++ crlf)
calm_fields [] h k = record { bold = refl; calm = refl }
calm_fields (f ∷ fs) h k =
    let rest = flat_map field_line fs ++ crlf in
    let later = calm_fields fs h.1 k.1 in
    let whole : flat_map field_line (f ∷ fs) ++ crlf ≡ f.name ++ 58 ∷ (f.value ++ 13 ∷ 10 ∷ rest) =
    append_assoc (field_line f) (flat_map field_line fs) crlf ∙ append_assoc f.name (58 ∷ (f.value ++ crlf)) rest
    ∙ ap (λ t. f.name ++ 58 ∷ t) (append_assoc f.value crlf rest) in
    let end : is_calm (13 ∷ 10 ∷ rest) ≡ true = rw (later.bold, later.calm) refl in
    record {
      bold = ap is_bold whole ∙ bold_more f.name (58 ∷ (f.value ++ 13 ∷ 10 ∷ rest)) h.0.some k.0;
      calm = ap is_calm whole ∙ calm_inline f.name (58 ∷ (f.value ++ 13 ∷ 10 ∷ rest)) (name_inline f.name h.0.name) ∙ calm_value f.value (13 ∷ 10 ∷ rest) h.0.value end;
    }

bold_both : (xs ys : List FieldText) → AllBold xs → AllBold ys → AllBold (xs ++ ys)
bold_both [] ys h k = k
bold_both (x ∷ xs) ys h k = (h.0, bold_both xs ys h.1 k)

bold_if : (n : List ℕ) (o : Option (List ℕ)) → is_bold n ≡ true → AllBold (field_if n o)
bold_if n None h = tt
bold_if n (Some v) h = (h, tt)

part_bold : (h : HeadText) → AllBold (part_fields h)
part_bold h = (
  refl,
  bold_both (field_if (codes "Content-Disposition") (option_map (disposition_value fold h.name) h.disposition))
      (field_if (codes "Content-ID") (option_map cid_value h.cid) ++ (field_if (codes "Content-Language") (option_map language_value h.language)
      ++ (field_if (codes "Content-Location") (option_map location_value h.location) ++ field_if (codes "Content-Transfer-Encoding") (option_map coding_value h.coding))))
      (bold_if (codes "Content-Disposition") (option_map (disposition_value fold h.name) h.disposition) refl)
      (bold_both (field_if (codes "Content-ID") (option_map cid_value h.cid)) (field_if (codes "Content-Language") (option_map language_value h.language)
      ++ (field_if (codes "Content-Location") (option_map location_value h.location) ++ field_if (codes "Content-Transfer-Encoding") (option_map coding_value h.coding)))
      (bold_if (codes "Content-ID") (option_map cid_value h.cid) refl)
      (bold_both (field_if (codes "Content-Language") (option_map language_value h.language))
      (field_if (codes "Content-Location") (option_map location_value h.location) ++ field_if (codes "Content-Transfer-Encoding") (option_map coding_value h.coding))
      (bold_if (codes "Content-Language") (option_map language_value h.language) refl)
      (bold_both (field_if (codes "Content-Location") (option_map location_value h.location)) (field_if (codes "Content-Transfer-Encoding") (option_map coding_value h.coding))
      (bold_if (codes "Content-Location") (option_map location_value h.location) refl)
      (bold_if (codes "Content-Transfer-Encoding") (option_map coding_value h.coding) refl)))),
)

-- a part's text is as its body is
mild_part : (n low high : ℕ) (h : HeadText) (body : List ℕ) → IsHead h → IsMild n low high body → IsMild n low high (message_text [] h body)
mild_part n low high h body is m =
    let front = flat_map field_line (part_fields h) in
    let calm = calm_fields (part_fields h) (part_good h is) (part_bold h) in
    let cut : lines (message_text [] h body ++ crlf) ≡ lines (front ++ crlf) ++ lines (body ++ crlf) =
    ap lines (append_assoc front (crlf ++ body) crlf) ∙ lines_both front (body ++ crlf) in
    subst (AreKnown n low high) (sym cut)
    (known_both n low high (lines (front ++ crlf)) (lines (body ++ crlf))
    (quiet_known n low high (lines (front ++ crlf)) (quiet_lines n (front ++ crlf) calm.bold (tail_quiet n (front ++ crlf) calm.calm))) m)

-- ---- multiparts

abbrev AllMild : ℕ → ℕ → ℕ → List (List ℕ) → Type 0
AllMild n low high ts = AllByRecursion (IsMild n low high) ts

all_wider : (n low high low' high' : ℕ) (ts : List (List ℕ)) → low' ≤ low → high ≤ high' → AllMild n low high ts → AllMild n low' high' ts
all_wider n low high low' high' [] a b h = tt
all_wider n low high low' high' (t ∷ ts) a b h = (known_wider n low high low' high' (lines (t ++ crlf)) a b h.0, all_wider n low high low' high' ts a b h.1)

digit_inline : (ds : List ℕ) → AreDigits ds → list_all is_inline ds ≡ true
digit_inline [] h = refl
digit_inline (b ∷ bs) h =
    let parts = both_true (is_digit b) (list_all is_digit bs) h in
    rw (digit_no b 10 parts.0 refl) (digit_inline bs parts.1)

start_inline : (n : ℕ) → n < 2 ^ 64 → list_all is_inline (boundary_start n) ≡ true
start_inline n a =
    let digits : list_all is_inline (decimal n) ≡ true = digit_inline (decimal n) (decimal_digits n a) in
    list_all-append is_inline (decimal n) (46 ∷ []) ∙ rw digits refl

boundary_inline : (n k : ℕ) → n < 2 ^ 64 → k < 2 ^ 64 → list_all is_inline (boundary_text n k) ≡ true
boundary_inline n k a b =
    let first : list_all is_inline (boundary_start n) ≡ true = start_inline n a in
    let second : list_all is_inline (decimal k) ≡ true = digit_inline (decimal k) (decimal_digits k b) in
    list_all-append is_inline (boundary_start n) (decimal k) ∙ rw (first, second) refl

opening_marks : (n k : ℕ) → Marks n k ((dashes ++ boundary_text n k) ++ crlf)
opening_marks n k = ([], inl refl, text_before (dashes ++ boundary_text n k) ∙ ap (λ t. dashes ++ t) (sym (append-nil (boundary_text n k))))

closing_marks : (n k : ℕ) → Marks n k ((dashes ++ (boundary_text n k ++ dashes)) ++ crlf)
closing_marks n k = (dashes, inr refl, text_before (dashes ++ (boundary_text n k ++ dashes)))

mild_multipart : (n low high k : ℕ) (ts : List (List ℕ)) → n < 2 ^ 64 → k < 2 ^ 64 → low ≤ k → k < high → AllMild n low high ts → IsMild n low high (multipart_text (boundary_text n k) ts)
mild_multipart n low high k [] a b p q h =
    let b' = boundary_text n k in
    let inline : list_all is_inline (dashes ++ (b' ++ dashes)) ≡ true = list_all-append is_inline b' dashes ∙ rw (boundary_inline n k a b) refl in
    subst (AreKnown n low high) (sym (line_before (dashes ++ (b' ++ dashes)) [] inline)) (inr (k, p, q, closing_marks n k), tt)
mild_multipart n low high k (t ∷ ts) a b p q h =
    let b' = boundary_text n k in
    let rest = multipart_text b' ts in
    let tail = t ++ (crlf ++ rest) in
    let cut : lines (multipart_text b' (t ∷ ts) ++ crlf) ≡ ((dashes ++ b') ++ crlf) ∷ (lines (t ++ crlf) ++ lines (rest ++ crlf)) =
    ap lines (append_assoc (dashes ++ b') (crlf ++ tail) crlf)
    ∙ line_before (dashes ++ b') (tail ++ crlf) (boundary_inline n k a b)
    ∙ ap (λ u. ((dashes ++ b') ++ crlf) ∷ lines u) (append_assoc t (crlf ++ rest) crlf)
    ∙ ap (λ ls. ((dashes ++ b') ++ crlf) ∷ ls) (lines_both t (rest ++ crlf)) in
    subst (AreKnown n low high) (sym cut)
    (inr (k, p, q, opening_marks n k), known_both n low high (lines (t ++ crlf)) (lines (rest ++ crlf)) h.0 (mild_multipart n low high k ts a b p q h.1))

boundary_of : (n k : ℕ) (h : HeadText) → h.boundary ≡ Some (boundary_text n k) → unwrap_or h.boundary [] ≡ boundary_text n k
boundary_of n k h e = ap (λ o. unwrap_or o []) e

-- the texts of parts with the numbers from k on
texts_mild : (n k levels : ℕ) (ws : WrittenParts) → n < 2 ^ 64 → k + multipart_count ws ≤ 2 ^ 64 → AreFormed levels ws → AreNumbered n k ws → AreQuiet n ws
    → AllMild n k (k + multipart_count ws) (part_texts ws)
texts_mild n k levels none small top w m q = tt
texts_mild n k levels (leaf h body later) small top w m q =
    (quiet_known n k (k + multipart_count later) (lines (message_text [] h body ++ crlf)) q.0, texts_mild n k levels later small top w.1 m q.1)
texts_mild n k zero (multipart h inner later) small top w m q = absurd w
texts_mild n k (suc levels) (multipart h inner later) small top w m q =
    let high = k + (1 + (multipart_count inner + multipart_count later)) in
    let low' = 1 + k in
    let high' = 1 + k + multipart_count inner in
    let low'' = 1 + (k + multipart_count inner) in
    let high'' = 1 + (k + multipart_count inner) + multipart_count later in
    let within = all_wider n low' high' k high (part_texts inner) (omega arith) (omega arith) (texts_mild n low' levels inner small (omega arith) w.2 m.1 q.0) in
    let after = all_wider n low'' high'' k high (part_texts later) (omega arith) (omega arith) (texts_mild n low'' (suc levels) later small (omega arith) w.3 m.2 q.1) in
    let body = mild_multipart n k high k (part_texts inner) small (omega arith) (omega arith) (omega arith) within in
    (mild_part n k high h (body_text h (part_texts inner)) w.0 (subst (λ b. IsMild n k high (multipart_text b (part_texts inner))) (sym (boundary_of n k h m.0)) body), after)

all_apart : (n low high k : ℕ) (ts : List (List ℕ)) → high ≤ 2 ^ 64 → k < 2 ^ 64 → k < low → AllMild n low high ts → AllByRecursion (HasNoDelimiter (boundary_text n k)) ts
all_apart n low high k [] top small out h = tt
all_apart n low high k (t ∷ ts) top small out h = (mild_apart n low high k t top small (inl out) h.0, all_apart n low high k ts top small out h.1)

pub numbered_apart : (n k levels : ℕ) (ws : WrittenParts) → n < 2 ^ 64 → k + multipart_count ws ≤ 2 ^ 64 → AreFormed levels ws → AreNumbered n k ws → AreQuiet n ws → AreWritable levels ws
numbered_apart n k levels none small top w m q = tt
numbered_apart n k levels (leaf h body later) small top w m q = (w.0, numbered_apart n k levels later small top w.1 m q.1)
numbered_apart n k zero (multipart h inner later) small top w m q = absurd w
numbered_apart n k (suc levels) (multipart h inner later) small top w m q =
    let low' = 1 + k in
    let high' = 1 + k + multipart_count inner in
    let mild = texts_mild n low' levels inner small (omega arith) w.2 m.1 q.0 in
    let apart = all_apart n low' high' k (part_texts inner) (omega arith) (omega arith) (omega arith) mild in (
      record { head = w.0; several = w.1; apart = subst (λ b. AllByRecursion (HasNoDelimiter b) (part_texts inner)) (sym (boundary_of n k h m.0)) apart },
      numbered_apart n low' levels inner small (omega arith) w.2 m.1 q.0,
      numbered_apart n (1 + (k + multipart_count inner)) (suc levels) later small (omega arith) w.3 m.2 q.1,
    )

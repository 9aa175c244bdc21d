-- Fields that are written are read back, and so is the body after them.
use Rattle.std.proofs.Common.{◌≡◌, ℕ, ◌+◌, ◌<◌, Bool, true, false, cond, eqb, ltb, ◌&&◌, IsTrue, List, [], ◌∷◌, ◌++◌, length, get_or, take, drop, map, refl, sym, ap, ◌∙◌, append_assoc, length-append, inl, inr, arith}
use Rattle.std.specs.List.{AllByRecursion, concat, flat_map, list_all, onto_first, prefix_len}
use Rattle.std.proofs.lemmas.Bool.{cases_eq, lt-ltb, ne_eqb, true≢false}
use Rattle.std.proofs.lemmas.List.{append-nil, drop_at, take_at}
use Rattle.std.proofs.lemmas.List.Folds.{list_all-append}
use Rattle.std.proofs.Math.Seq.{get_or-append_seam}
use Rattle.mime_lines.specs.Lines.{lines, text, is_line_end, is_blank}
use Rattle.mime_lines.specs.Fields.{header, body_at, body_of, goes_on, next_goes_on, onto_next, joined, is_name_byte, name_len, is_field}
use Rattle.mime_lines.specs.FieldTexts.{FieldText, field_text_of, field_texts_of, field_texts}
use Rattle.mime_lines.specs.Written.{crlf, field_line, header_and_body, is_folded, is_inline, IsField}
use Rattle.mime_lines.proofs.ReadFacts.{concat_lines}
use Rattle.mime_lines.proofs.Unfolds.{both_true, not_true, text_before}

-- a byte that is of a class is none that isn't
apart : (class : ℕ → Bool) (x y : ℕ) → class x ≡ true → class y ≡ false → eqb x y ≡ false
apart class x y h k = elim (cases_eq x y) as (λ _. eqb x y ≡ false) [
  | inl e ↦ absurd (true≢false (sym h ∙ ap class e ∙ k))
  | inr n ↦ ne_eqb x y n
]

-- lines of some text that ends in an LF, and of more
onto_front : (b : ℕ) (ls ms : List (List ℕ)) → 0 < length ls → onto_first b (ls ++ ms) ≡ onto_first b ls ++ ms
onto_front b [] ms h = absurd (omega (arith, h))
onto_front b (l ∷ ls) ms h = refl

some_onto : (b : ℕ) (ls : List (List ℕ)) → 0 < length (onto_first b ls)
some_onto b [] = omega arith
some_onto b (l ∷ ls) = omega arith

some_lines : (x : List ℕ) → 0 < length (lines (x ++ crlf))
some_lines [] = omega arith
some_lines (b ∷ bs) = elim (eqb b 10) as (λ v. 0 < length (cond v ((b ∷ []) ∷ lines (bs ++ crlf)) (onto_first b (lines (bs ++ crlf))))) [
  | true ↦ omega arith
  | false ↦ some_onto b (lines (bs ++ crlf))
]

lines_both : (x rest : List ℕ) → lines (x ++ 13 ∷ 10 ∷ rest) ≡ lines (x ++ crlf) ++ lines rest
lines_both [] rest = refl
lines_both (b ∷ bs) rest =
    let ls = lines (bs ++ crlf) in
    let later = lines_both bs rest in
    elim (eqb b 10) as (λ v. cond v ((b ∷ []) ∷ lines (bs ++ 13 ∷ 10 ∷ rest)) (onto_first b (lines (bs ++ 13 ∷ 10 ∷ rest))) ≡ cond v ((b ∷ []) ∷ ls) (onto_first b ls) ++ lines rest) [
      | true ↦ ap (λ t. (b ∷ []) ∷ t) later
      | false ↦ ap (onto_first b) later ∙ onto_front b ls (lines rest) (some_lines bs)
    ]

-- each of these lines continues the one before it
abbrev AllGoOn : List (List ℕ) → Type 0
AllGoOn [] = Unit {0}
AllGoOn (l ∷ ls) = (goes_on l ≡ true) × AllGoOn ls

-- the lines of a folded text with a line end
record Folds (v : List ℕ) : Type 0 where
  first : List ℕ
  others : List (List ℕ)
  is : lines (v ++ crlf) ≡ first ∷ others
  on : goes_on first ≡ goes_on v
  all : AllGoOn others

folds : (v : List ℕ) → is_folded v ≡ true → Folds v
folds [] h = record { first = crlf; others = []; is = refl; on = refl; all = tt }
folds (b ∷ bs) h = elim (eqb b 10) as (λ v. eqb b 10 ≡ v → cond v (goes_on bs && is_folded bs) (is_folded bs) ≡ true → Folds (b ∷ bs)) [
  | true ↦ λ e k.
      let parts = both_true (goes_on bs) (is_folded bs) k in
      let later = folds bs parts.1 in
      record {
        first = b ∷ [];
        others = later.first ∷ later.others;
        is = ap (λ v. cond v ((b ∷ []) ∷ lines (bs ++ crlf)) (onto_first b (lines (bs ++ crlf)))) e ∙ ap (λ t. (b ∷ []) ∷ t) later.is;
        on = refl;
        all = (later.on ∙ parts.0, later.all);
      }
  | false ↦ λ e k.
      let later = folds bs k in
      record {
        first = b ∷ later.first;
        others = later.others;
        is = ap (λ v. cond v ((b ∷ []) ∷ lines (bs ++ crlf)) (onto_first b (lines (bs ++ crlf)))) e ∙ ap (onto_first b) later.is;
        on = refl;
        all = later.all;
      }
] refl h

-- a text without line ends before some lines
lines_after : (p x l : List ℕ) (ls : List (List ℕ)) → list_all is_inline p ≡ true → lines x ≡ l ∷ ls → lines (p ++ x) ≡ (p ++ l) ∷ ls
lines_after [] x l ls h e = e
lines_after (b ∷ bs) x l ls h e =
    let parts = both_true (is_inline b) (list_all is_inline bs) h in
    ap (λ v. cond v ((b ∷ []) ∷ lines (bs ++ x)) (onto_first b (lines (bs ++ x)))) (not_true (eqb b 10) parts.0)
    ∙ ap (onto_first b) (lines_after bs x l ls parts.1 e)

-- the characters of a name
name_other : (n : List ℕ) → list_all is_name_byte n ≡ true → list_all is_inline n ≡ true
name_other [] h = refl
name_other (b ∷ bs) h =
    let parts = both_true (is_name_byte b) (list_all is_name_byte bs) h in
    rw (apart is_name_byte b 10 parts.0 refl) (name_other bs parts.1)

name_size : (n t : List ℕ) → list_all is_name_byte n ≡ true → prefix_len is_name_byte (n ++ 58 ∷ t) ≡ length n
name_size [] t h = refl
name_size (b ∷ bs) t h =
    let parts = both_true (is_name_byte b) (list_all is_name_byte bs) h in
    let later = name_size bs t parts.1 in
    rw parts.0 (omega (arith, later))

all_is : (n : List ℕ) → IsTrue (list_all is_name_byte n) → list_all is_name_byte n ≡ true
all_is n h = elim (list_all is_name_byte n) as (λ v. IsTrue v → v ≡ true) [ true ↦ λ _. refl | false ↦ λ k. k ] h

no_end : (b : ℕ) (bs : List ℕ) → eqb b 10 ≡ false → eqb b 13 ≡ false → is_line_end (b ∷ bs) ≡ false
no_end b [] h k = h
no_end b (c ∷ []) h k = rw k refl
no_end b (c ∷ d ∷ ds) h k = refl

blank_no : (l : List ℕ) → goes_on l ≡ true → is_line_end l ≡ false
blank_no [] h = refl
blank_no (b ∷ bs) h = no_end b bs (apart is_blank b 10 h refl) (apart is_blank b 13 h refl)

-- the lines of a field
record Written (f : FieldText) : Type 0 where
  first : List ℕ
  others : List (List ℕ)
  is : (rest : List ℕ) → lines (field_line f ++ rest) ≡ first ∷ (others ++ lines rest)
  on : goes_on first ≡ false
  ends : is_line_end first ≡ false
  all : AllGoOn others
  whole : first ++ concat others ≡ field_line f

begins : (n t : List ℕ) → 0 < length n → list_all is_name_byte n ≡ true → (goes_on (n ++ t) ≡ false) × (is_line_end (n ++ t) ≡ false)
begins [] t some h = absurd (omega (arith, some))
begins (b ∷ bs) t some h =
    let named : is_name_byte b ≡ true = (both_true (is_name_byte b) (list_all is_name_byte bs) h).0 in
    let space : eqb b 32 ≡ false = apart is_name_byte b 32 named refl in
    let tab : eqb b 9 ≡ false = apart is_name_byte b 9 named refl in
    let blank : is_blank b ≡ false = rw (space, tab) refl in
    (blank, no_end b (bs ++ t) (apart is_name_byte b 10 named refl) (apart is_name_byte b 13 named refl))

written : (f : FieldText) → IsField f → Written f
written f h =
    let n = f.name in
    let named : list_all is_name_byte n ≡ true = all_is n h.name in
    let value = folds f.value h.value in
    let p = n ++ 58 ∷ [] in
    let clean : list_all is_inline p ≡ true = list_all-append is_inline n (58 ∷ []) ∙ rw (name_other n named) refl in
    let line : field_line f ≡ p ++ (f.value ++ crlf) = sym (append_assoc n (58 ∷ []) (f.value ++ crlf)) in
    let start = begins n (58 ∷ value.first) h.some named in
    let same : p ++ value.first ≡ n ++ 58 ∷ value.first = append_assoc n (58 ∷ []) value.first in
    let all : lines (field_line f) ≡ (p ++ value.first) ∷ value.others = ap lines line ∙ lines_after p (f.value ++ crlf) value.first value.others clean value.is in
    let whole : p ++ f.value ++ crlf ≡ field_line f = append_assoc p f.value crlf ∙ sym line in
    record {
      first = p ++ value.first;
      others = value.others;
      is = λ rest.
          ap lines (ap (λ t. t ++ rest) line ∙ ap (λ t. t ++ rest) (sym (append_assoc p f.value crlf)) ∙ append_assoc (p ++ f.value) crlf rest)
          ∙ lines_both (p ++ f.value) rest
          ∙ ap (λ t. lines t ++ lines rest) whole
          ∙ ap (λ t. t ++ lines rest) all;
      on = ap goes_on same ∙ start.0;
      ends = ap is_line_end same ∙ start.1;
      all = value.all;
      whole = ap concat (sym all) ∙ concat_lines (field_line f);
    }

-- its lines in the header
header_on : (ls later : List (List ℕ)) → AllGoOn ls → header (ls ++ later) ≡ ls ++ header later
header_on [] later h = refl
header_on (l ∷ ls) later h = rw (blank_no l h.0) (ap (λ t. l ∷ t) (header_on ls later h.1))

joined_on : (l : List ℕ) (ls later : List (List ℕ)) → AllGoOn ls → next_goes_on later ≡ false → joined (l ∷ (ls ++ later)) ≡ (l ++ concat ls) ∷ joined later
joined_on l [] later h k = rw k (ap (λ t. t ∷ joined later) (sym (append-nil l)))
joined_on l (m ∷ ms) later h k = rw h.0 (ap (onto_next l) (joined_on m ms later h.1 k))

abbrev AllFields : List FieldText → Type 0
AllFields fs = AllByRecursion IsField fs

-- the lines of the header of some fields
record Read (fs : List FieldText) (body : List ℕ) : Type 0 where
  next : next_goes_on (header (lines (header_and_body fs body))) ≡ false
  all : joined (header (lines (header_and_body fs body))) ≡ map field_line fs

read : (fs : List FieldText) (body : List ℕ) → AllFields fs → Read fs body
read [] body h = record { next = refl; all = refl }
read (f ∷ fs) body h =
    let one = written f h.0 in
    let later = read fs body h.1 in
    let rest = header_and_body fs body in
    let is : header (lines (header_and_body (f ∷ fs) body)) ≡ one.first ∷ (one.others ++ header (lines rest)) =
    ap (λ t. header (lines t)) (append_assoc (field_line f) (flat_map field_line fs) (crlf ++ body))
    ∙ ap header (one.is rest)
    ∙ ap (λ v. cond v [] (one.first ∷ header (one.others ++ lines rest))) one.ends
    ∙ ap (λ t. one.first ∷ t) (header_on one.others (lines rest) one.all) in
    record {
      next = ap next_goes_on is ∙ one.on;
      all = ap joined is ∙ joined_on one.first one.others (header (lines rest)) one.all later.next
          ∙ ap (λ t. t ∷ joined (header (lines rest))) one.whole ∙ ap (λ t. field_line f ∷ t) later.all;
    }

-- a field from its line
field_is : (f : FieldText) → IsField f → is_field (field_line f) ≡ true
field_is f h =
    let n = f.name in
    let size : name_len (field_line f) ≡ length n = name_size n (f.value ++ crlf) (all_is n h.name) in
    let test : ℕ → Bool = λ k. ltb 0 k && eqb (get_or (field_line f) k 0) 58 in
    ap test size ∙ rw (get_or-append_seam n 58 (f.value ++ crlf) 0, lt-ltb 0 (length n) h.some) refl

abbrev text_field : List ℕ → List ℕ → FieldText
text_field name value = record { name = name; value = value }

field_back : (f : FieldText) → IsField f → field_text_of (field_line f) ≡ f
field_back f h =
    let n = f.name in
    let l = field_line f in
    let size : name_len l ≡ length n = name_size n (f.value ++ crlf) (all_is n h.name) in
    let shown : text l ≡ (n ++ 58 ∷ []) ++ f.value =
    ap text (sym (append_assoc n (58 ∷ f.value) crlf)) ∙ text_before (n ++ 58 ∷ f.value) ∙ sym (append_assoc n (58 ∷ []) f.value) in
    let place : length n + 1 ≡ length (n ++ 58 ∷ []) = sym (length-append n (58 ∷ [])) in
    let named : take (name_len l) l ≡ n = ap (λ k. take k l) size ∙ take_at n (58 ∷ (f.value ++ crlf)) (length n) refl in
    let valued : drop (name_len l + 1) (text l) ≡ f.value =
    ap (λ k. drop (k + 1) (text l)) size ∙ ap (drop (length n + 1)) shown ∙ drop_at (n ++ 58 ∷ []) f.value (length n + 1) (sym place) in
    ap (λ x. text_field x (drop (name_len l + 1) (text l))) named ∙ ap (text_field n) valued

all_back : (fs : List FieldText) → AllFields fs → field_texts_of (map field_line fs) ≡ fs
all_back [] h = refl
all_back (f ∷ fs) h =
    ap (λ v. cond v (field_text_of (field_line f) ∷ field_texts_of (map field_line fs)) (field_texts_of (map field_line fs))) (field_is f h.0)
    ∙ ap (λ t. t ∷ field_texts_of (map field_line fs)) (field_back f h.0) ∙ ap (λ t. f ∷ t) (all_back fs h.1)

pub fields_back : (fs : List FieldText) (body : List ℕ) → AllFields fs → field_texts (header_and_body fs body) ≡ fs
fields_back fs body h = ap field_texts_of (read fs body h).all ∙ all_back fs h

-- where the body begins
body_on : (at : ℕ) (ls later : List (List ℕ)) → AllGoOn ls → body_at at (ls ++ later) ≡ body_at (at + length (concat ls)) later
body_on at [] later h = let same : at ≡ at + 0 = omega arith in ap (λ n. body_at n later) same
body_on at (l ∷ ls) later h =
    let same : at + length l + length (concat ls) ≡ at + length (l ++ concat ls) = omega (arith, length-append l (concat ls)) in
    ap (λ v. cond v (at + length l) (body_at (at + length l) (ls ++ later))) (blank_no l h.0)
    ∙ body_on (at + length l) ls later h.1 ∙ ap (λ n. body_at n later) same

body_from : (at : ℕ) (fs : List FieldText) (body : List ℕ) → AllFields fs
    → body_at at (lines (header_and_body fs body)) ≡ at + (length (flat_map field_line fs) + 2)
body_from at [] body h = refl
body_from at (f ∷ fs) body h =
    let one = written f h.0 in
    let rest = header_and_body fs body in
    let fl = field_line f in
    let size : length fl ≡ length one.first + length (concat one.others) = ap length (sym one.whole) ∙ length-append one.first (concat one.others) in
    let sum : at + length one.first + length (concat one.others) + (length (flat_map field_line fs) + 2) ≡ at + (length (fl ++ flat_map field_line fs) + 2) =
    omega (arith, length-append fl (flat_map field_line fs), size) in
    ap (λ t. body_at at (lines t)) (append_assoc fl (flat_map field_line fs) (crlf ++ body))
    ∙ ap (body_at at) (one.is rest)
    ∙ ap (λ v. cond v (at + length one.first) (body_at (at + length one.first) (one.others ++ lines rest))) one.ends
    ∙ body_on (at + length one.first) one.others (lines rest) one.all
    ∙ body_from (at + length one.first + length (concat one.others)) fs body h.1
    ∙ sum

pub body_back : (fs : List FieldText) (body : List ℕ) → AllFields fs → drop (body_of (header_and_body fs body)) (header_and_body fs body) ≡ body
body_back fs body h =
    let front = flat_map field_line fs in
    let size : body_of (header_and_body fs body) ≡ length (front ++ crlf) = body_from 0 fs body h ∙ omega (arith, length-append front crlf) in
    ap (λ n. drop n (header_and_body fs body)) size
    ∙ ap (drop (length (front ++ crlf))) (sym (append_assoc front crlf body)) ∙ drop_at (front ++ crlf) body (length (front ++ crlf)) refl

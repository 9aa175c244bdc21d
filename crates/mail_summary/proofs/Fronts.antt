-- What the beginning of a body says of its text.
use Rattle.std.proofs.Common.{◌≡◌, ◌≢◌, ℕ, zero, suc, ◌+◌, ◌-◌, ◌<◌, ◌≤◌, Bool, true, false, cond, eqb, map, List, [], ◌∷◌, ◌++◌, Option, Some, None, length, get_or, take, drop, refl, sym, ap, ◌∙◌, append_assoc, length-append, arith}
use Rattle.std.specs.Prelude.{nat_lt, ◌&&◌, not, is_none, Result, Ok, Err, IfOk, IfSome}
use Rattle.std.specs.List.{flat_map, list_all, onto_first}
use Rattle.std.specs.Str.{chars, chars_after, is_utf8, IsAscii, encode_utf8_all}
use Rattle.std.specs.Str.Lossy.{valid_len_up_to, utf8_valid_len, utf8_lossy_within, utf8_lossy, after_first_chunk, replacement_bytes}
use Rattle.std.proofs.Math.Seq.{take-append_seam}
use Rattle.std.proofs.lemmas.Bool.{true≢false, eq-eqb}
use Rattle.std.proofs.lemmas.List.{take-append-drop, map-append}
use Rattle.std.proofs.lemmas.List.Concat.{flat_map-append}
use Rattle.std.proofs.lemmas.Str.{is_utf8-from_IsUtf8, IsUtf8-from_ascii, encodes-IsAscii, encodes-append, utf8_lossy-IsUtf8, utf8_lossy_step, chars-nil}
use Rattle.mime_lines.specs.Lines.{lines}
use Rattle.mime_codec.specs.Quoted.{quoted_line, quoted_printable}
use Rattle.mime_codec.specs.Base64.{letter, with_letter, letters, packed, base64}
use Rattle.mime_words.specs.Charsets.{is_ascii, ascii_character, decoded_text, has_problem}
use Rattle.mime_words.specs.declared.charset.Charset.{Charset}
use Rattle.mime_words.specs.declared.charset.Charset.TheVariants.{Utf8, Ascii, Latin1}
use Rattle.mail_summary.specs.Texts.{Begins}

-- quoted-printable: whole lines
abbrev Cut : List ℕ → List ℕ → Type 0
Cut front rest = (l : List ℕ) × (ls : List (List ℕ)) × (lines front ≡ l ∷ ls) × (lines (front ++ rest) ≡ l ∷ (ls ++ lines rest))

abbrev lines_by : Bool → ℕ → List ℕ → List (List ℕ)
lines_by v b bs = cond v ((b ∷ []) ∷ lines bs) (onto_first b (lines bs))

cut_on : (b : ℕ) (front rest : List ℕ) → Cut front rest → (v : Bool) → eqb b 10 ≡ v → Cut (b ∷ front) rest
cut_on b front rest cut true e = (
  b ∷ [],
  cut.0 ∷ cut.1,
  ap (λ v. lines_by v b front) e ∙ ap (λ (t : List (List ℕ)). (b ∷ []) ∷ t) cut.2,
  ap (λ v. lines_by v b (front ++ rest)) e ∙ ap (λ (t : List (List ℕ)). (b ∷ []) ∷ t) cut.3,
)
cut_on b front rest cut false e = (
  b ∷ cut.0,
  cut.1,
  ap (λ v. lines_by v b front) e ∙ ap (onto_first b) cut.2,
  ap (λ v. lines_by v b (front ++ rest)) e ∙ ap (onto_first b) cut.3,
)

cut_at : (xs : List ℕ) (i : ℕ) → i < length xs → eqb (get_or xs i 0) 10 ≡ true → (rest : List ℕ) → Cut (take (suc i) xs) rest
cut_at [] i inside here rest = absurd (omega arith)
cut_at (b ∷ bs) zero inside here rest = (b ∷ [], [], ap (λ v. lines_by v b []) here, ap (λ v. lines_by v b rest) here)
cut_at (b ∷ bs) (suc i) inside here rest = cut_on b (take (suc i) bs) rest (cut_at bs i (omega arith) here rest) (eqb b 10) refl

lines_begin : (front rest : List ℕ) → Cut front rest → Begins (quoted_printable front) (quoted_printable (front ++ rest))
lines_begin front rest cut = (
  flat_map quoted_line (lines rest),
  ap (flat_map quoted_line) cut.3 ∙ flat_map-append quoted_line (cut.0 ∷ cut.1) (lines rest)
      ∙ ap (λ ls. flat_map quoted_line ls ++ flat_map quoted_line (lines rest)) (sym cut.2),
)

pub quoted_begins : (first body front : List ℕ) (i : ℕ) → i < length first → eqb (get_or first i 0) 10 ≡ true → front ≡ take (i + 1) first → Begins first body
    → Begins (quoted_printable front) (quoted_printable body)
quoted_begins first body front i inside here is begins =
    let step : i + 1 ≡ suc i = omega arith in
    let taken : front ≡ take (suc i) first = is ∙ ap (λ n. take n first) step in
    let rest = drop (suc i) first ++ begins.0 in
    let whole : body ≡ take (suc i) first ++ rest =
    begins.1 ∙ ap (λ t. t ++ begins.0) (sym (take-append-drop (suc i) first)) ∙ append_assoc (take (suc i) first) (drop (suc i) first) begins.0 in
    let found = lines_begin (take (suc i) first) rest (cut_at first i inside here rest) in
    (found.0, ap quoted_printable whole ∙ found.1 ∙ ap (λ t. quoted_printable t ++ found.0) (sym taken))

-- base64
letters_on : (b : ℕ) (xs ys : List ℕ) → Begins (letters xs) (letters (xs ++ ys)) → (o : Option ℕ) → Begins (with_letter o (letters xs)) (with_letter o (letters (xs ++ ys)))
letters_on b xs ys later None = later
letters_on b xs ys later (Some v) = (later.0, ap (λ t. v ∷ t) later.1)

letters_begin : (xs ys : List ℕ) → Begins (letters xs) (letters (xs ++ ys))
letters_begin [] ys = (letters ys, refl)
letters_begin (b ∷ xs) ys =
    let later = letters_on b xs ys (letters_begin xs ys) (letter b) in
    elim (eqb b 61) as (λ v. Begins (cond v [] (with_letter (letter b) (letters xs))) (cond v [] (with_letter (letter b) (letters (xs ++ ys))))) [
      | true ↦ ([], refl)
      | false ↦ later
    ]

packed_begins : (xs ys : List ℕ) → Begins (packed xs) (packed (xs ++ ys))
packed_begins [] ys = (packed ys, refl)
packed_begins (a ∷ []) ys = (packed (a ∷ ys), refl)
packed_begins (a ∷ b ∷ []) [] = ([], refl)
packed_begins (a ∷ b ∷ []) (c ∷ []) = (drop 1 (packed (a ∷ b ∷ c ∷ [])), refl)
packed_begins (a ∷ b ∷ []) (c ∷ d ∷ ys) = (drop 1 (packed (a ∷ b ∷ c ∷ d ∷ ys)), refl)
packed_begins (a ∷ b ∷ c ∷ []) [] = ([], refl)
packed_begins (a ∷ b ∷ c ∷ []) (d ∷ ys) = (drop 2 (packed (a ∷ b ∷ c ∷ d ∷ ys)), refl)
packed_begins (a ∷ b ∷ c ∷ d ∷ xs) ys =
    let later = packed_begins xs ys in
    (later.0, ap (λ t. take 3 (packed (a ∷ b ∷ c ∷ d ∷ [])) ++ t) later.1)

pub base64_begins : (front body : List ℕ) → Begins front body → Begins (base64 front) (base64 body)
base64_begins front body begins =
    let read = letters_begin front begins.0 in
    let made = packed_begins (letters front) read.0 in
    (made.0, ap base64 begins.1 ∙ ap packed read.1 ∙ made.1)

-- ASCII bytes at the beginning are their own text in each charset
valid_le : (bs : List ℕ) (n k : ℕ) → k ≤ n → is_utf8 (take k bs) ≡ true → k ≤ valid_len_up_to bs n
valid_le bs zero k h valid = omega (arith, h)
valid_le bs (suc n) k h valid = elim (is_utf8 (take (suc n) bs)) as (λ v. is_utf8 (take (suc n) bs) ≡ v → k ≤ cond v (suc n) (valid_len_up_to bs n)) [
  | true ↦ λ e. h
  | false ↦ λ e.
      let other : k ≢ suc n = λ s. true≢false (sym valid ∙ ap (λ m. is_utf8 (take m bs)) s ∙ e) in
      valid_le bs n k (omega (arith, h, other)) valid
] refl

front_valid : (f r : List ℕ) → IsAscii f → length f ≤ utf8_valid_len (f ++ r)
unfolding utf8_valid_len
front_valid f r all =
    valid_le (f ++ r) (length (f ++ r)) (length f) (omega (arith, length-append f r))
    (ap is_utf8 (take-append_seam f r) ∙ is_utf8-from_IsUtf8 f (IsUtf8-from_ascii f all))

take_past : (f r : List ℕ) (n : ℕ) → length f ≤ n → Begins f (take n (f ++ r))
take_past [] r n h = (take n r, refl)
take_past (b ∷ bs) r zero h = absurd (omega (arith, h))
take_past (b ∷ bs) r (suc n) h = let later = take_past bs r n (omega (arith, h)) in (later.0, ap (λ t. b ∷ t) later.1)

within_whole : (k : ℕ) (bs : List ℕ) → eqb (utf8_valid_len bs) (length bs) ≡ true → utf8_lossy_within k bs ≡ bs
within_whole zero bs e = refl
within_whole (suc k) bs e = ap (λ v. cond v bs (take (utf8_valid_len bs) bs ++ (replacement_bytes ++ utf8_lossy_within k (after_first_chunk bs)))) e

lossy_whole : (bs : List ℕ) → eqb (utf8_valid_len bs) (length bs) ≡ true → utf8_lossy bs ≡ bs
unfolding utf8_lossy
lossy_whole bs e = within_whole (length bs) bs e

lossy_by : (f r : List ℕ) → IsAscii f → (v : Bool) → eqb (utf8_valid_len (f ++ r)) (length (f ++ r)) ≡ v → Begins f (utf8_lossy (f ++ r))
lossy_by f r all true e = (r, lossy_whole (f ++ r) e)
lossy_by f r all false e =
    let n = utf8_valid_len (f ++ r) in
    let later = take_past f r n (front_valid f r all) in
    let more = replacement_bytes ++ utf8_lossy (after_first_chunk (f ++ r)) in
    (later.0 ++ more, utf8_lossy_step (f ++ r) (λ s. true≢false (sym (eq-eqb _ _ s) ∙ e)) ∙ ap (λ t. t ++ more) later.1 ∙ append_assoc f later.0 more)

low : (b : ℕ) → b < 128 → nat_lt b 128 ≡ true
low b h = grind arith

same_characters : (f : List ℕ) → IsAscii f → map ascii_character f ≡ f
same_characters [] all = refl
same_characters (b ∷ bs) all =
    let same : ascii_character b ≡ b = ap (λ v. cond v b 0xFFFD) (low b (all 0)) in
    ap (λ c. c ∷ map ascii_character bs) same ∙ ap (λ l. b ∷ l) (same_characters bs (λ i. all (suc i)))

ascii_begins : (f r : List ℕ) → IsAscii f → Begins f (encode_utf8_all (map ascii_character (f ++ r)))
ascii_begins f r all = (
  encode_utf8_all (map ascii_character r),
  ap encode_utf8_all (map-append ascii_character f r) ∙ encodes-append (map ascii_character f) (map ascii_character r)
      ∙ ap (λ t. t ++ encode_utf8_all (map ascii_character r)) (ap encode_utf8_all (same_characters f all) ∙ encodes-IsAscii f all),
)

text_begins : (charset : Option Charset) (f r : List ℕ) → IsAscii f → Begins f (decoded_text charset (f ++ r))
text_begins None f r all = ascii_begins f r all
text_begins (Some Utf8) f r all = lossy_by f r all (eqb (utf8_valid_len (f ++ r)) (length (f ++ r))) refl
text_begins (Some Ascii) f r all = ascii_begins f r all
text_begins (Some Latin1) f r all = (encode_utf8_all r, encodes-append f r ∙ ap (λ t. t ++ encode_utf8_all r) (encodes-IsAscii f all))

after_ascii : (b : ℕ) (bs : List ℕ) → chars_after 0 b bs ≡ b ∷ chars bs
unfolding chars
after_ascii b [] = refl
after_ascii b (c ∷ cs) = refl

one_char : (b : ℕ) (bs : List ℕ) → b < 128 → chars (b ∷ bs) ≡ b ∷ chars bs
unfolding chars
one_char b bs h =
    ap (λ v. chars_after (cond v 0 (cond (nat_lt b 224) 1 (cond (nat_lt b 240) 2 3))) (cond v b (cond (nat_lt b 224) (b - 192) (cond (nat_lt b 240) (b - 224) (b - 240)))) bs) (low b h)
    ∙ after_ascii b bs

chars_ascii : (f later : List ℕ) → IsAscii f → chars (f ++ later) ≡ chars f ++ chars later
chars_ascii [] later all = ap (λ t. t ++ chars later) (sym chars-nil)
chars_ascii (b ∷ bs) later all =
    one_char b (bs ++ later) (all 0) ∙ ap (λ t. b ∷ t) (chars_ascii bs later (λ i. all (suc i))) ∙ ap (λ t. t ++ chars later) (sym (one_char b bs (all 0)))

pub chars_begin : (charset : Option Charset) (f bytes : List ℕ) → IsAscii f → Begins f bytes → Begins (chars f) (chars (decoded_text charset bytes))
chars_begin charset f bytes all begins =
    let text = text_begins charset f begins.0 all in
    (chars text.0, ap (λ t. chars (decoded_text charset t)) begins.1 ∙ ap chars text.1 ∙ chars_ascii f text.0 all)

pub carried : {A E : Type 0} (P Q : A → Type 0) → ((x : A) → P x → Q x) → (r : Result (Option A) E) → IfOk r (λ o. IfSome o P) → IfOk r (λ o. IfSome o Q)
carried P Q step (Ok (Some x)) h = step x h
carried P Q step (Ok None) h = h
carried P Q step (Err e) h = h

pub whole_ascii : (charset : Option Charset) (f : List ℕ) → IsAscii f → decoded_text charset f ≡ f
whole_ascii None f all = ap encode_utf8_all (same_characters f all) ∙ encodes-IsAscii f all
whole_ascii (Some Utf8) f all = utf8_lossy-IsUtf8 f (IsUtf8-from_ascii f all)
whole_ascii (Some Ascii) f all = ap encode_utf8_all (same_characters f all) ∙ encodes-IsAscii f all
whole_ascii (Some Latin1) f all = encodes-IsAscii f all

all_low : (f : List ℕ) → IsAscii f → list_all is_ascii f ≡ true
all_low [] all = refl
all_low (b ∷ bs) all = ap (λ v. v && list_all is_ascii bs) (low b (all 0)) ∙ all_low bs (λ i. all (suc i))

pub problem_ascii : (charset : Option Charset) (f : List ℕ) → IsAscii f → has_problem charset f ≡ is_none charset
problem_ascii None f all = refl
problem_ascii (Some Utf8) f all = ap not (is_utf8-from_IsUtf8 f (IsUtf8-from_ascii f all))
problem_ascii (Some Ascii) f all = ap not (all_low f all)
problem_ascii (Some Latin1) f all = refl

none_ascii : IsAscii []
none_ascii i = omega arith

pub problem_of_none : (charset : Option Charset) → has_problem charset [] ≡ is_none charset
problem_of_none charset = problem_ascii charset [] none_ascii

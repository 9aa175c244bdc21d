-- Display-names that are written, on one line.
use Rattle.std.proofs.Common.{◌≡◌, ℕ, zero, suc, ◌+◌, ◌-◌, ◌<◌, ◌≤◌, Bool, true, false, cond, eqb, leb, ◌&&◌, not, List, [], ◌∷◌, ◌++◌, length, get_or, take, drop, map, inl, inr, Option, Some, None, refl, sym, ap, ◌∙◌, length-append, arith}
use Rattle.std.specs.List.{list_all, prefix_len, suffix_len}
use Rattle.std.specs.Char.{is_ascii_whitespace}
use Rattle.std.proofs.Math.Bool.{and-false}
use Rattle.std.proofs.Math.Seq.{get_or-append_seam}
use Rattle.std.proofs.lemmas.Bool.{cases_lt, lt-leb, le-leb, leb-true, ne_eqb, true≢false}
use Rattle.std.proofs.lemmas.List.{append-nil, get_or_append_left, take_all, take_at}
use Rattle.std.proofs.lemmas.List.Sums.{suffix_len_is}
use Rattle.mail_text.specs.Texts.{trimmed, trimmed_end}
use Rattle.mime_lines.proofs.Unfolds.{both_true, not_true}
use Rattle.mime_codec.specs.Quoted.{is_between}
use Rattle.mime_codec.specs.Base64Text.{sign}
use Rattle.mime_codec.proofs.Tables.{counted, for_below}
use Rattle.mime_words.specs.Words.{decoded_words}
use Rattle.mime_words.specs.WrittenWords.{has_word_start, is_plain_text, words_by}
use Rattle.mime_words.proofs.WordTexts.{Passes, words_all, words_ends}
use Rattle.mime_words.proofs.WordsBack.{plain_back, words_back}
use Rattle.header_forms.specs.declared.address.Address.{Address}
use Rattle.header_forms.specs.PlainAddresses.{is_plain, is_inner}
use Rattle.header_forms.specs.WrittenForms.{has_no_outer_white, IsFieldText, angled, is_name_character, has_two_spaces, is_plain_name, is_address_character}
use Rattle.header_forms.proofs.PlainAddress.{ArePlain, and_first, and_second}
use Rattle.header_forms.proofs.WrittenTexts.{by_table, yes, all_weaker, IsWritten, is_written, printed_written}

-- ---- characters

abbrev pub is_printed : ℕ → Bool
is_printed b = is_between 32 126 b

abbrev pub is_dark : ℕ → Bool
is_dark b = not (is_ascii_whitespace b)

-- those of an address
email_small : (b : ℕ) → is_address_character b ≡ true → b < 127
email_small b h =
    let a = and_first (leb 33 b && leb b 126 && not (eqb b 60) && not (eqb b 62) && not (eqb b 34) && not (eqb b 40) && not (eqb b 41)) (not (eqb b 92)) h in
    let c = and_first (leb 33 b && leb b 126 && not (eqb b 60) && not (eqb b 62) && not (eqb b 34) && not (eqb b 40)) (not (eqb b 41)) a in
    let d = and_first (leb 33 b && leb b 126 && not (eqb b 60) && not (eqb b 62) && not (eqb b 34)) (not (eqb b 40)) c in
    let e = and_first (leb 33 b && leb b 126 && not (eqb b 60) && not (eqb b 62)) (not (eqb b 34)) d in
    let f = and_first (leb 33 b && leb b 126 && not (eqb b 60)) (not (eqb b 62)) e in
    let g = and_first (leb 33 b && leb b 126) (not (eqb b 60)) f in
    omega (arith, leb-true b 126 (and_second (leb 33 b) (leb b 126) g))

pub email_printed : (b : ℕ) → is_address_character b ≡ true → is_printed b ≡ true
email_printed b h = by_table is_address_character is_printed refl b (email_small b h) h

pub email_dark : (b : ℕ) → is_address_character b ≡ true → is_dark b ≡ true
email_dark b h = by_table is_address_character is_dark refl b (email_small b h) h

pub email_inner : (b : ℕ) → is_address_character b ≡ true → is_inner b ≡ true
email_inner b h = by_table is_address_character is_inner refl b (email_small b h) h

-- those of a plain name
leb_no : (b n : ℕ) → n < b → leb b n ≡ false
leb_no b n h = lt-leb b n h

name_small : (b : ℕ) → is_name_character b ≡ true → b < 127
name_small b h = elim (cases_lt b 127) as (λ _. b < 127) [
  | inl low ↦ low
  | inr high ↦
      let none : is_name_character b ≡ false = rw (leb_no b 57 (omega arith), leb_no b 90 (omega arith), leb_no b 122 (omega arith), ne_eqb b 45 (λ e. omega (arith, e, high)), ne_eqb b 32 (λ e. omega (arith, e, high)), and-false (leb 48 b), and-false (leb 65 b), and-false (leb 97 b)) refl in
      absurd (true≢false (sym h ∙ none))
]

pub name_printed : (b : ℕ) → is_name_character b ≡ true → is_printed b ≡ true
name_printed b h = by_table is_name_character is_printed refl b (name_small b h) h

name_plain : (b : ℕ) → is_name_character b ≡ true → is_plain b ≡ true
name_plain b h = by_table is_name_character is_plain refl b (name_small b h) h

abbrev is_no_equals : ℕ → Bool
is_no_equals b = not (eqb b 61)

name_no_equals : (b : ℕ) → is_name_character b ≡ true → is_no_equals b ≡ true
name_no_equals b h = by_table is_name_character is_no_equals refl b (name_small b h) h

-- those of encoded-words
abbrev plain_sign : ℕ → Bool
plain_sign n = is_plain (sign n)

plain_signs : map plain_sign (counted 0 64) ≡ map yes (counted 0 64)
plain_signs = refl

plain_passes : Passes is_plain
plain_passes = record { signs = for_below plain_sign yes false 64 plain_signs; begins = refl; ends = refl; pad = refl }

abbrev written_sign : ℕ → Bool
written_sign n = is_written (sign n)

written_signs : map written_sign (counted 0 64) ≡ map yes (counted 0 64)
written_signs = refl

written_passes : Passes is_written
written_passes = record { signs = for_below written_sign yes false 64 written_signs; begins = refl; ends = refl; pad = refl }

-- ---- white space at the ends

pub record IsDarkText (t : List ℕ) : Type 0 where
  pub some : 0 < length t
  pub first : is_ascii_whitespace (get_or t 0 0) ≡ false
  pub end : is_ascii_whitespace (get_or t (length t - 1) 0) ≡ false

no_lead : (t rest : List ℕ) → IsDarkText t → prefix_len is_ascii_whitespace (t ++ rest) ≡ 0
no_lead [] rest h = absurd (omega (arith, h.some))
no_lead (b ∷ bs) rest h = rw h.first refl

trim_all : (t : List ℕ) → IsDarkText t → trimmed_end t ≡ t
trim_all t h =
    let none : suffix_len is_ascii_whitespace t ≡ length t - length t =
    suffix_len_is is_ascii_whitespace t (length t) 0 (omega arith) (λ k low high. absurd (omega (arith, low, high))) (λ _. h.end) in
    let all : length t - suffix_len is_ascii_whitespace t ≡ length t = omega (arith, none) in
    ap (λ n. take n t) all ∙ take_all (length t) t (omega arith)

pub trim_dark : (t : List ℕ) → IsDarkText t → trimmed t ≡ t
trim_dark t h =
    let none : prefix_len is_ascii_whitespace t ≡ 0 = ap (prefix_len is_ascii_whitespace) (sym (append-nil t)) ∙ no_lead t [] h in
    ap (λ n. trimmed_end (drop n t)) none ∙ trim_all t h

trim_space : (t : List ℕ) → IsDarkText t → trimmed_end (t ++ 32 ∷ []) ≡ t
trim_space t h =
    let u = t ++ 32 ∷ [] in
    let size : length u ≡ length t + 1 = length-append t (32 ∷ []) in
    let place : length t - 1 < length t = let some = h.some in omega arith in
    let at : (k : ℕ) → length t ≤ k → k < length u → is_ascii_whitespace (get_or u k 0) ≡ true =
    λ k low high. let same : k ≡ length t = omega (arith, low, high, size) in ap (λ n. is_ascii_whitespace (get_or u n 0)) same ∙ ap is_ascii_whitespace (get_or-append_seam t 32 [] 0) in
    let one : suffix_len is_ascii_whitespace u ≡ length u - length t =
    suffix_len_is is_ascii_whitespace u (length t) 0 (omega (arith, size)) at (λ _. ap is_ascii_whitespace (get_or_append_left t (32 ∷ []) 0 (length t - 1) place) ∙ h.end) in
    let all : length u - suffix_len is_ascii_whitespace u ≡ length t = omega (arith, one, size) in
    ap (λ n. take n u) all ∙ take_at t (32 ∷ []) (length t) refl

pub trim_both : (t : List ℕ) → IsDarkText t → trimmed (32 ∷ (t ++ 32 ∷ [])) ≡ t
trim_both t h =
    let u = t ++ 32 ∷ [] in
    let one : 1 + prefix_len is_ascii_whitespace u ≡ 1 = omega (arith, no_lead t (32 ∷ []) h) in
    ap (λ n. trimmed_end (drop n (32 ∷ u))) one ∙ trim_space t h

dark_text : (t : List ℕ) → 0 < length t → has_no_outer_white t ≡ true → IsDarkText t
dark_text t some h =
    let parts = both_true (not (is_ascii_whitespace (get_or t 0 0))) (not (is_ascii_whitespace (get_or t (length t - 1) 0))) h in
    record { some = some; first = not_true (is_ascii_whitespace (get_or t 0 0)) parts.0; end = not_true (is_ascii_whitespace (get_or t (length t - 1) 0)) parts.1 }

all_at : (t : List ℕ) (k : ℕ) → list_all is_dark t ≡ true → k < length t → is_ascii_whitespace (get_or t k 0) ≡ false
all_at [] k h low = absurd (omega (arith, low))
all_at (b ∷ bs) zero h low = not_true (is_ascii_whitespace b) (both_true (is_dark b) (list_all is_dark bs) h).0
all_at (b ∷ bs) (suc k) h low = all_at bs k (both_true (is_dark b) (list_all is_dark bs) h).1 (omega arith)

pub dark_all : (t : List ℕ) → 0 < length t → list_all is_dark t ≡ true → IsDarkText t
dark_all t some h = record { some = some; first = all_at t 0 h some; end = all_at t (length t - 1) h (omega arith) }

words_dark : (between text : List ℕ) → IsDarkText (words_by between text)
words_dark between text =
    let e = words_ends between text in
    let t = words_by between text in
    let u = 61 ∷ e.within in
    let size : length t ≡ length u + 1 = ap length e.is ∙ length-append u (61 ∷ []) in
    let place : length t - 1 ≡ length u = omega (arith, size) in
    record {
      some = omega (arith, size);
      first = ap (λ w. is_ascii_whitespace (get_or w 0 0)) e.is;
      end = ap (λ n. is_ascii_whitespace (get_or t n 0)) place ∙ ap (λ w. is_ascii_whitespace (get_or w (length u) 0)) e.is
          ∙ ap is_ascii_whitespace (get_or-append_seam u 61 [] 0);
    }

-- ---- a name on one line

abbrev pub said : List ℕ → List ℕ
said name = cond (is_plain_name name) name (words_by (32 ∷ []) name)

pub plain_parts : (name : List ℕ) → is_plain_name name ≡ true → (length name ≤ 900) × (list_all is_name_character name ≡ true)
plain_parts name h =
    let parts = both_true (leb (length name) 900) (list_all is_name_character name && not (has_two_spaces name)) h in
    (leb-true (length name) 900 parts.0, (both_true (list_all is_name_character name) (not (has_two_spaces name)) parts.1).0)

-- what is said of the text of a name on one line
pub record Said (name t : List ℕ) : Type 0 where
  pub dark : IsDarkText t
  pub plain : ArePlain t
  pub written : IsWritten t
  pub is : decoded_words t ≡ name

no_start : (t : List ℕ) → list_all is_no_equals t ≡ true → has_word_start t ≡ false
no_start [] h = refl
no_start (b ∷ []) h = refl
no_start (b ∷ c ∷ cs) h =
    let parts = both_true (is_no_equals b) (list_all is_no_equals (c ∷ cs)) h in
    rw (not_true (eqb b 61) parts.0) (no_start (c ∷ cs) parts.1)

said_plain : (name : List ℕ) → IsFieldText name → 0 < length name → is_plain_name name ≡ true → Said name name
said_plain name t some h =
    let parts = plain_parts name h in
    let printed = all_weaker is_name_character is_printed name_printed name parts.1 in
    let none : has_word_start name ≡ false = no_start name (all_weaker is_name_character is_no_equals name_no_equals name parts.1) in
    let plain : is_plain_text name ≡ true = rw (le-leb (length name) 900 parts.0, printed, none) refl in
    record {
      dark = dark_text name some t.dark;
      plain = all_weaker is_name_character is_plain name_plain name parts.1;
      written = all_weaker is_printed is_written printed_written name printed;
      is = plain_back name plain;
    }

said_words : (name : List ℕ) → IsFieldText name → Said name (words_by (32 ∷ []) name)
said_words name t = record {
  dark = words_dark (32 ∷ []) name;
  plain = words_all is_plain plain_passes (32 ∷ []) name refl t.utf8;
  written = words_all is_written written_passes (32 ∷ []) name refl t.utf8;
  is = words_back (32 ∷ []) name refl t.utf8 t.shown;
}

pub said_name : (name : List ℕ) → IsFieldText name → 0 < length name → Said name (said name)
said_name name t some = elim (is_plain_name name) as (λ v. is_plain_name name ≡ v → Said name (cond v name (words_by (32 ∷ []) name))) [
  | true ↦ λ h. said_plain name t some h
  | false ↦ λ _. said_words name t
] refl

abbrev pub name_line : Option (List ℕ) → List ℕ
name_line None = []
name_line (Some name) = said name ++ 32 ∷ []

abbrev pub address_line : Address → List ℕ
address_line a = name_line a.name ++ angled a.email

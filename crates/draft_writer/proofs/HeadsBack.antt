-- The head of a part can be written, and is read back.
use Rattle.std.proofs.Common.{◌≡◌, ℕ, ◌+◌, ◌/◌, ◌<◌, ◌≤◌, ◌^◌, Bool, true, false, cond, leb, ◌&&◌, ◌||◌, not, List, [], ◌∷◌, map, Option, None, Some, refl, sym, ap, ◌∙◌, arith}
use Rattle.std.specs.Prelude.{option_map, is_some}
use Rattle.std.specs.List.{AllByRecursion, list_all}
use Rattle.std.specs.Str.{IsUtf8, chars, encode_utf8_all}
use Rattle.std.proofs.lemmas.Bool.{true≢false, leb-true, lt-leb, ltb-true, ltb-false}
use lib.Utf8.{encode, next}
use lib.Dec.{ltb}
use Rattle.std.proofs.lemmas.List.Folds.{list_all-append}
use Rattle.std.proofs.lemmas.Str.{encodes-chars}
use Rattle.mime_lines.specs.Written.{parted_by}
use Rattle.mime_lines.proofs.Unfolds.{both_true}
use Rattle.mime_codec.specs.Base64Text.{sign}
use Rattle.mime_codec.specs.declared.coding.Coding.{Coding}
use Rattle.mime_codec.proofs.Tables.{counted, for_below}
use Rattle.mime_words.specs.Words.{decoded_words}
use Rattle.mime_words.specs.WrittenWords.{is_plain_text, is_shown, pieces, word_text}
use Rattle.mime_words.proofs.WordTexts.{Passes, words_all}
use Rattle.mime_words.proofs.WordsBack.{plain_back, words_back}
use Rattle.mime_type.specs.Content.{is_multipart}
use Rattle.mime_type.specs.HeadText.{AreTags, IfThere, IsBoundary, IsHead, IsLabel, IsNameLine, is_name_character, media_of_head}
use Rattle.mime_type.specs.TypeText.{IsToken}
use Rattle.std.specs.Fmt.{decimal}
use Rattle.mime_tree.specs.Boundaries.{boundary_start, boundary_text}
use Rattle.mime_tree.proofs.KnownLines.{decimal_digits, is_digit}
use Rattle.header_forms.proofs.WrittenTexts.{all_weaker, by_table, implies}
use Rattle.mime_writer.specs.Heads.{head_text, is_plain, name_lines}
use Rattle.mime_writer.specs.declared.heads.PartHead.{PartHead}
use Rattle.draft_form.specs.Texts.{are_shown, is_shown_byte}

-- ---- names

each_of : (test : ℕ → Bool) (ts : List (List ℕ)) → list_all test (parted_by [] ts) ≡ true → AllByRecursion (λ t. list_all test t ≡ true) ts
each_of test [] h = tt
each_of test (t ∷ []) h = (h, tt)
each_of test (t ∷ u ∷ ts) h =
    let parts = both_true (list_all test t) (list_all test (parted_by [] (u ∷ ts))) (sym (list_all-append test t (parted_by [] (u ∷ ts))) ∙ h) in
    (parts.0, each_of test (u ∷ ts) parts.1)

abbrev name_sign : ℕ → Bool
name_sign n = is_name_character (sign n)

abbrev yes : ℕ → Bool
yes n = true

name_signs : map name_sign (counted 0 64) ≡ map yes (counted 0 64)
name_signs = refl

name_passes : Passes is_name_character
name_passes = record { signs = for_below name_sign yes false 64 name_signs; begins = refl; ends = refl; pad = refl }

name_written : (name : List ℕ) → IsUtf8 name → AllByRecursion IsNameLine (name_lines name)
name_written name u = elim (is_plain name) as (λ v. is_plain name ≡ v → AllByRecursion IsNameLine (cond v (name ∷ []) (map word_text (pieces name)))) [
  | true ↦ λ e. ((both_true (is_plain_text name) (list_all is_name_character name) e).1, tt)
  | false ↦ λ _. each_of is_name_character (map word_text (pieces name)) (words_all is_name_character name_passes [] name refl u)
] refl

-- a character of shown bytes is shown
implied : (p q : Bool) → (not p || q) ≡ true → p ≡ true → q ≡ true
implied true q h e = h
implied false q h e = absurd (true≢false (sym e))

low_shown : (c : ℕ) → c < 128 → is_shown_byte c ≡ true → is_shown c ≡ true
low_shown c h e = implied (is_shown_byte c) (is_shown c) (for_below (implies is_shown_byte is_shown) yes false 128 refl c h) e

abbrev no : ℕ → Bool
no c = not ((leb 0 c && leb c 31) || (leb 127 c && leb c 127))

high_shown : (c : ℕ) → 128 ≤ c → is_shown c ≡ true
high_shown c h = both_no (leb 0 c) (leb c 31) (leb 127 c) (leb c 127) (lt-leb c 31 (omega (arith, h))) (lt-leb c 127 (omega (arith, h)))
  where
    both_no : (p q r s : Bool) → q ≡ false → s ≡ false → not ((p && q) || (r && s)) ≡ true
    both_no p false r false e f = elim p as (λ v. not ((v && false) || (r && false)) ≡ true) [
      | true ↦ elim r as (λ w. not (w && false) ≡ true) [ true ↦ refl | false ↦ refl ]
      | false ↦ elim r as (λ w. not (w && false) ≡ true) [ true ↦ refl | false ↦ refl ]
    ]
    both_no p true r s e f = absurd (true≢false e)
    both_no p false r true e f = absurd (true≢false f)

abbrev three : ℕ → List ℕ
three c = cond (ltb c 65536) ((224 + c / 4096) ∷ next (c / 64) ∷ next c ∷ []) ((240 + c / 262144) ∷ next (c / 4096) ∷ next (c / 64) ∷ next c ∷ [])

one_shown : (c : ℕ) → list_all is_shown_byte (encode c) ≡ true → is_shown c ≡ true
unfolding encode
one_shown c h = elim (ltb c 128) as (λ v. ltb c 128 ≡ v → list_all is_shown_byte (cond v (c ∷ []) (cond (ltb c 2048) ((192 + c / 64) ∷ next c ∷ []) (three c))) ≡ true → is_shown c ≡ true) [
  | true ↦ λ e k. low_shown c (ltb-true c 128 e) (both_true (is_shown_byte c) true k).0
  | false ↦ λ e _. high_shown c (ltb-false c 128 e)
] refl h

chars_shown : (cs : List ℕ) → list_all is_shown_byte (encode_utf8_all cs) ≡ true → list_all is_shown cs ≡ true
chars_shown [] h = refl
chars_shown (c ∷ cs) h =
    let parts = both_true (list_all is_shown_byte (encode c)) (list_all is_shown_byte (encode_utf8_all cs)) (sym (list_all-append is_shown_byte (encode c) (encode_utf8_all cs)) ∙ h) in
    rw (one_shown c parts.0) (chars_shown cs parts.1)

pub text_shown : (t : List ℕ) → IsUtf8 t → are_shown t ≡ true → list_all is_shown (chars t) ≡ true
text_shown t u h = chars_shown (chars t) (ap (list_all is_shown_byte) (encodes-chars t u) ∙ h)

name_back : (name : List ℕ) → IsUtf8 name → list_all is_shown (chars name) ≡ true → decoded_words (parted_by (32 ∷ []) (name_lines name)) ≡ name
name_back name u h = elim (is_plain name) as (λ v. is_plain name ≡ v → decoded_words (parted_by (32 ∷ []) (cond v (name ∷ []) (map word_text (pieces name)))) ≡ name) [
  | true ↦ λ e. plain_back name (both_true (is_plain_text name) (list_all is_name_character name) e).0
  | false ↦ λ _. words_back (32 ∷ []) name refl u h
] refl

-- ---- heads

abbrev pub IsShownText : List ℕ → Type 0
IsShownText t = are_shown t ≡ true

-- what the form says of a head
pub record IsFitHead (h : PartHead) : Type 0 where
  pub main : IsToken h.main
  pub sub : IsToken h.sub
  pub charset : IfThere IsToken h.charset
  pub name : IfThere IsShownText h.name
  pub disposition : IfThere IsToken h.disposition
  pub cid : IfThere IsLabel h.cid
  pub language : IfThere AreTags h.language
  pub location : IfThere IsLabel h.location

names_written : (o : Option (List ℕ)) → IfThere IsUtf8 o → IfThere (AllByRecursion IsNameLine) (option_map name_lines o)
names_written None h = tt
names_written (Some name) h = name_written name h

pub names_back : (o : Option (List ℕ)) → IfThere IsUtf8 o → IfThere IsShownText o
    → option_map decoded_words (option_map (parted_by (32 ∷ [])) (option_map name_lines o)) ≡ o
names_back None u h = refl
names_back (Some name) u h = ap Some (name_back name u (text_shown name u h))

pub head_fit : (h : PartHead) (boundary : Option (List ℕ)) (coding : Option Coding) → IsFitHead h → IfThere IsUtf8 h.name → IfThere IsBoundary boundary
    → (is_multipart (media_of_head (head_text h boundary coding)) ≡ true → is_some boundary ≡ true)
    → IsHead (head_text h boundary coding)
head_fit h boundary coding f u b cuts = record {
  main = f.main;
  sub = f.sub;
  charset = f.charset;
  name = names_written h.name u;
  boundary = b;
  cuts = cuts;
  disposition = f.disposition;
  cid = f.cid;
  language = f.language;
  location = f.location;
}

-- ---- boundaries

digit_name : (b : ℕ) → is_digit b ≡ true → is_name_character b ≡ true
digit_name b h = by_table is_digit is_name_character refl b (omega (arith, leb-true b 57 (both_true (leb 48 b) (leb b 57) h).1)) h

digits_name : (n : ℕ) → n < 2 ^ 64 → list_all is_name_character (decimal n) ≡ true
digits_name n h = all_weaker is_digit is_name_character digit_name (decimal n) (decimal_digits n h)

boundary_name : (n k : ℕ) → n < 2 ^ 64 → k < 2 ^ 64 → list_all is_name_character (boundary_text n k) ≡ true
boundary_name n k h l =
    list_all-append is_name_character (boundary_start n) (decimal k)
    ∙ ap (λ v. list_all is_name_character (boundary_start n) && v) (digits_name k l)
    ∙ ap (λ v. v && true) (list_all-append is_name_character (decimal n) (46 ∷ []) ∙ ap (λ v. v && true) (digits_name n h))

pub boundary_good : (n k : ℕ) → n < 2 ^ 64 → k < 2 ^ 64 → IsBoundary (boundary_text n k)
boundary_good n k h l = record { some = omega arith; each = boundary_name n k h l }

-- A text that is written as a field's value is read back.
use Rattle.std.proofs.Common.{◌≡◌, ℕ, zero, suc, ◌+◌, ◌-◌, ◌<◌, ◌≤◌, Bool, true, false, cond, eqb, leb, ◌&&◌, ◌||◌, not, List, [], ◌∷◌, ◌++◌, length, get_or, drop, map, filter, refl, sym, ap, ◌∙◌, arith}
use Rattle.std.specs.List.{list_all, prefix_len}
use Rattle.std.specs.Char.{is_ascii_whitespace}
use Rattle.std.specs.Str.{IsAscii, IsUtf8, encode_utf8_all}
use Rattle.std.proofs.lemmas.Bool.{eqb-true, le-leb, leb-true, ne_eqb, true≢false}
use Rattle.std.proofs.lemmas.List.Folds.{list_all-append}
use Rattle.std.proofs.lemmas.Str.{IsUtf8-from_ascii, chars-IsAscii, encodes-IsAscii, utf8_lossy-IsUtf8}
use Rattle.mime_lines.specs.Lines.{unfolded}
use Rattle.mime_lines.specs.Written.{fold, is_inline}
use Rattle.mime_lines.proofs.Unfolds.{IsInline, both_true, not_true, unfolded_alone}
use Rattle.mime_lines.proofs.FoldedTexts.{Folds, folds_both, folds_fold, folds_unfolded}
use Rattle.mime_codec.specs.Quoted.{is_between}
use Rattle.mime_codec.specs.Base64Text.{sign}
use Rattle.mime_codec.proofs.Tables.{counted, for_below}
use Rattle.mime_words.specs.Words.{decoded_words}
use Rattle.mime_words.specs.WrittenWords.{has_word_start, is_plain_text, words_by, words_text}
use Rattle.mime_words.proofs.WordTexts.{Passes, words_all, words_ends, words_fold}
use Rattle.mime_words.proofs.WordsBack.{plain_back, words_back}
use Rattle.header_forms.specs.Texts.{without, is_zero, raw_text, on_one_line, is_space, without_spaces, text_form}
use Rattle.header_forms.specs.WrittenForms.{has_no_outer_white, IsFieldText, text_value}

pub both_all : (test : ℕ → Bool) (a b : List ℕ) → list_all test a ≡ true → list_all test b ≡ true → list_all test (a ++ b) ≡ true
both_all test a b h k = list_all-append test a b ∙ rw (h, k) refl

-- a test that one passes is passed by what passes another
pub all_weaker : (p q : ℕ → Bool) → ((b : ℕ) → p b ≡ true → q b ≡ true) → (t : List ℕ) → list_all p t ≡ true → list_all q t ≡ true
all_weaker p q weaker [] h = refl
all_weaker p q weaker (b ∷ bs) h =
    let parts = both_true (p b) (list_all p bs) h in
    rw (weaker b parts.0) (all_weaker p q weaker bs parts.1)

-- a test that is passed by what passes another, by a table
abbrev pub implies : (ℕ → Bool) → (ℕ → Bool) → ℕ → Bool
implies p q b = not (p b) || q b

abbrev pub yes : ℕ → Bool
yes n = true

implied : (p q : Bool) → (not p || q) ≡ true → p ≡ true → q ≡ true
implied true q h e = h
implied false q h e = absurd (true≢false (sym e))

pub by_table : (p q : ℕ → Bool) → map (implies p q) (counted 0 127) ≡ map yes (counted 0 127) → (b : ℕ) → b < 127 → p b ≡ true → q b ≡ true
by_table p q table b low h = implied (p b) (q b) (for_below (implies p q) yes false 127 table b low) h

-- what values are written in: ASCII, and no U+0000
abbrev pub is_written : ℕ → Bool
is_written b = leb b 127 && not (eqb b 0)

abbrev pub IsWritten : List ℕ → Type 0
IsWritten v = list_all is_written v ≡ true

pub written_ascii : (v : List ℕ) → IsWritten v → IsAscii v
written_ascii [] h i = omega arith
written_ascii (b ∷ bs) h zero = omega (arith, leb-true b 127 (both_true (leb b 127) (not (eqb b 0)) (both_true (is_written b) (list_all is_written bs) h).0).0)
written_ascii (b ∷ bs) h (suc i) = written_ascii bs (both_true (is_written b) (list_all is_written bs) h).1 i

no_zero : (v : List ℕ) → IsWritten v → filter (λ c. not (is_zero c)) v ≡ v
no_zero [] h = refl
no_zero (b ∷ bs) h =
    let parts = both_true (is_written b) (list_all is_written bs) h in
    rw (both_true (leb b 127) (not (eqb b 0)) parts.0).1 (ap (λ t. b ∷ t) (no_zero bs parts.1))

pub raw_back : (v : List ℕ) → IsWritten v → raw_text v ≡ v
raw_back v h =
    let ascii = written_ascii v h in
    ap (without is_zero) (utf8_lossy-IsUtf8 v (IsUtf8-from_ascii v ascii))
    ∙ ap (λ t. encode_utf8_all (filter (λ c. not (is_zero c)) t)) (chars-IsAscii v ascii)
    ∙ ap encode_utf8_all (no_zero v h) ∙ encodes-IsAscii v ascii

pub one_line : (v meant : List ℕ) → IsWritten v → Folds v meant → on_one_line v ≡ meant
one_line v meant h f = ap unfolded (raw_back v h) ∙ folds_unfolded v meant f

-- encoded-words are
abbrev written_sign : ℕ → Bool
written_sign n = is_written (sign n)

written_signs : map written_sign (counted 0 64) ≡ map yes (counted 0 64)
written_signs = refl

written_passes : Passes is_written
written_passes = record { signs = for_below written_sign yes false 64 written_signs; begins = refl; ends = refl; pad = refl }

pub words_written : (text : List ℕ) → IsUtf8 text → IsWritten (words_text text)
words_written text u = words_all is_written written_passes fold text refl u

-- a character from space to ~
pub printed_written : (b : ℕ) → is_between 32 126 b ≡ true → is_written b ≡ true
printed_written b h =
    let parts = both_true (leb 32 b) (leb b 126) h in
    let low : 32 ≤ b = leb-true 32 b parts.0 in
    let high : b ≤ 126 = leb-true b 126 parts.1 in
    let some : eqb b 0 ≡ false = ne_eqb b 0 (λ e. omega (arith, e, low)) in
    rw (le-leb b 127 (omega arith), some) refl

pub printed_inline : (b : ℕ) → is_between 32 126 b ≡ true → is_inline b ≡ true
printed_inline b h =
    let low : 32 ≤ b = leb-true 32 b (both_true (leb 32 b) (leb b 126) h).0 in
    rw (ne_eqb b 10 (λ e. omega (arith, e, low))) refl

-- ---- white space at the ends

outer_first : (t : List ℕ) → has_no_outer_white t ≡ true → is_ascii_whitespace (get_or t 0 0) ≡ false
outer_first t h = not_true (is_ascii_whitespace (get_or t 0 0)) (both_true (not (is_ascii_whitespace (get_or t 0 0))) (not (is_ascii_whitespace (get_or t (length t - 1) 0))) h).0

not_space : (b : ℕ) → is_ascii_whitespace b ≡ false → is_space b ≡ false
not_space b h = elim (is_space b) as (λ v. is_space b ≡ v → v ≡ false) [
  | true ↦ λ e. absurd (true≢false (sym (ap is_ascii_whitespace (eqb-true b 32 e)) ∙ h))
  | false ↦ λ _. refl
] refl

no_spaces : (t : List ℕ) → is_ascii_whitespace (get_or t 0 0) ≡ false → without_spaces t ≡ t
no_spaces [] h = refl
no_spaces (b ∷ bs) h = rw (not_space b h) refl

spaces_gone : (t : List ℕ) → without_spaces (32 ∷ t) ≡ without_spaces t
spaces_gone t = let same : 1 + prefix_len is_space t ≡ suc (prefix_len is_space t) = omega arith in ap (λ n. drop n (32 ∷ t)) same

-- ---- the text form

pub plain_parts : (text : List ℕ) → is_plain_text text ≡ true → list_all (is_between 32 126) text ≡ true
plain_parts text h =
    let parts = both_true (leb (length text) 900) (list_all (is_between 32 126) text && not (has_word_start text)) h in
    (both_true (list_all (is_between 32 126) text) (not (has_word_start text)) parts.1).0

text_plain : (text : List ℕ) → IsFieldText text → is_plain_text text ≡ true → text_form (32 ∷ text) ≡ text
text_plain text t h =
    let printed = plain_parts text h in
    let written : IsWritten (32 ∷ text) = all_weaker (is_between 32 126) is_written printed_written text printed in
    let inline : IsInline (32 ∷ text) = all_weaker (is_between 32 126) is_inline printed_inline text printed in
    ap (λ v. decoded_words (without_spaces v)) (ap unfolded (raw_back (32 ∷ text) written) ∙ unfolded_alone (32 ∷ text) inline)
    ∙ ap decoded_words (spaces_gone text ∙ no_spaces text (outer_first text t.dark))
    ∙ plain_back text h

text_words : (text : List ℕ) → IsFieldText text → text_form (fold ++ words_text text) ≡ text
text_words text t =
    let words = words_by (32 ∷ []) text in
    let ends = words_ends (32 ∷ []) text in
    let first : is_ascii_whitespace (get_or words 0 0) ≡ false = ap (λ w. is_ascii_whitespace (get_or w 0 0)) ends.is in
    ap (λ v. decoded_words (without_spaces v))
    (one_line (fold ++ words_text text) (32 ∷ words) (words_written text t.utf8) (folds_both fold (32 ∷ []) (words_text text) words folds_fold (words_fold text t.utf8)))
    ∙ ap decoded_words (spaces_gone words ∙ no_spaces words first)
    ∙ words_back (32 ∷ []) text refl t.utf8 t.shown

pub text_back : (text : List ℕ) → IsFieldText text → text_form (text_value text) ≡ text
text_back text t = elim (is_plain_text text) as (λ v. is_plain_text text ≡ v → text_form (cond v (32 ∷ text) (fold ++ words_text text)) ≡ text) [
  | true ↦ λ h. text_plain text t h
  | false ↦ λ _. text_words text t
] refl

-- What is written in quoted-printable is read back.
use Rattle.std.proofs.Common.{◌≡◌, ℕ, zero, suc, ◌+◌, ◌-◌, ◌*◌, ◌/◌, ◌%◌, ◌<◌, ◌≤◌, Bool, true, false, cond, eqb, ◌&&◌, not, List, [], ◌∷◌, ◌++◌, length, get_or, map, refl, sym, ap, ◌∙◌, append_assoc, length-append, arith}
use Rattle.std.specs.List.{list_all, onto_first, slice_split}
use Rattle.std.proofs.lemmas.Bool.{false≢true}
use Rattle.std.proofs.lemmas.List.{append-nil, get_or-append_right}
use Rattle.std.proofs.lemmas.List.Folds.{list_all-append}
use Rattle.std.proofs.lemmas.List.Splits.{length-slice_split}
use Rattle.mime_lines.specs.Written.{crlf, is_inline, parted_by}
use Rattle.mime_lines.proofs.Unfolds.{IsInline, both_true, not_true}
use Rattle.mime_codec.specs.Quoted.{is_between, is_hex, hex_value, unescaped, quoted_printable}
use Rattle.mime_codec.specs.QuotedText.{hex_digit, escape, is_literal, byte_text, last_byte_text, byte_texts, has_room, soft_break, broken, line_text, is_lf, quoted_printable_text, with_crlf}
use Rattle.mime_codec.proofs.Tables.{counted, for_below, for_bytes}
use Rattle.mime_codec.proofs.Runs.{unescaped-plain}
use Rattle.mime_codec.proofs.WrittenLines.{last_of, is_firm, EndsFirm, hard_line, end_line, soft_line}

abbrev yes : ℕ → Bool
yes n = true

abbrev itself : ℕ → ℕ
itself n = n

-- the digits
abbrev is_good_digit : ℕ → Bool
is_good_digit n = is_hex (hex_digit n)

abbrev digit_value : ℕ → ℕ
digit_value n = hex_value (hex_digit n)

good_digits : map is_good_digit (counted 0 16) ≡ map yes (counted 0 16)
good_digits = refl

digit_values : map digit_value (counted 0 16) ≡ map itself (counted 0 16)
digit_values = refl

escape_back : (b : ℕ) (rest : List ℕ) → b < 256 → unescaped (escape b ++ rest) ≡ b ∷ unescaped rest
escape_back b rest h =
    let high : is_hex (hex_digit (b / 16)) ≡ true = for_below is_good_digit yes false 16 good_digits (b / 16) (omega arith) in
    let low : is_hex (hex_digit (b % 16)) ≡ true = for_below is_good_digit yes false 16 good_digits (b % 16) (omega arith) in
    let high' : hex_value (hex_digit (b / 16)) ≡ b / 16 = for_below digit_value itself 0 16 digit_values (b / 16) (omega arith) in
    let low' : hex_value (hex_digit (b % 16)) ≡ b % 16 = for_below digit_value itself 0 16 digit_values (b % 16) (omega arith) in
    let both : (is_hex (hex_digit (b / 16)) && is_hex (hex_digit (b % 16))) ≡ true = rw (high, low) refl in
    let value : 16 * hex_value (hex_digit (b / 16)) + hex_value (hex_digit (b % 16)) ≡ b = omega (arith, high', low') in
    ap (λ v. cond v ((16 * hex_value (hex_digit (b / 16)) + hex_value (hex_digit (b % 16))) ∷ unescaped rest) (61 ∷ unescaped (hex_digit (b / 16) ∷ hex_digit (b % 16) ∷ rest))) both
    ∙ ap (λ x. x ∷ unescaped rest) value

byte_back : (b : ℕ) (rest : List ℕ) → b < 256 → unescaped (byte_text b ++ rest) ≡ b ∷ unescaped rest
byte_back b rest h =
    elim (is_literal b) as (λ v. is_literal b ≡ v → unescaped (cond v (b ∷ []) (escape b) ++ rest) ≡ b ∷ unescaped rest) [
      | true ↦ λ e. unescaped-plain b rest (not_true (eqb b 61) (both_true (is_between 32 126 b) (not (eqb b 61)) e).1)
      | false ↦ λ _. escape_back b rest h
    ] refl

last_back : (b : ℕ) (rest : List ℕ) → b < 256 → unescaped (last_byte_text b ++ rest) ≡ b ∷ unescaped rest
last_back b rest h =
    elim (eqb b 32) as (λ v. unescaped (cond v (escape b) (byte_text b) ++ rest) ≡ b ∷ unescaped rest) [ true ↦ escape_back b rest h | false ↦ byte_back b rest h ]

-- a byte is written in characters of a line, and at the end of one in characters that stay there
abbrev is_clean : ℕ → Bool
is_clean b = list_all is_inline (byte_text b)

abbrev is_clean_last : ℕ → Bool
is_clean_last b = list_all is_inline (last_byte_text b)

abbrev is_firm_last : ℕ → Bool
is_firm_last b = is_firm (last_of (last_byte_text b))

abbrev is_some_last : ℕ → Bool
is_some_last b = not (eqb (length (last_byte_text b)) 0)

clean_bytes : map is_clean (counted 0 256) ≡ map yes (counted 0 256)
clean_bytes = refl

clean_last_bytes : map is_clean_last (counted 0 256) ≡ map yes (counted 0 256)
clean_last_bytes = refl

firm_last_bytes : map is_firm_last (counted 0 256) ≡ map yes (counted 0 256)
firm_last_bytes = refl

some_last_bytes : map is_some_last (counted 0 256) ≡ map yes (counted 0 256)
some_last_bytes = refl

not_zero : (n : ℕ) → not (eqb n 0) ≡ true → 0 < n
not_zero zero h = absurd (false≢true h)
not_zero (suc n) h = omega arith

joined_firm : (p t : List ℕ) → 0 < length t → is_firm (last_of t) ≡ true → is_firm (last_of (p ++ t)) ≡ true
joined_firm p t some h =
    let size : length (p ++ t) ≡ length p + length t = length-append p t in
    let place : length (p ++ t) - 1 - length p ≡ length t - 1 = omega arith in
    ap is_firm (get_or-append_right p t (length p) (length (p ++ t) - 1) 0 refl (omega arith) ∙ ap (λ n. get_or t n 0) place) ∙ h

joined_clean : (p t : List ℕ) → IsInline p → IsInline t → IsInline (p ++ t)
joined_clean p t h k = list_all-append is_inline p t ∙ rw (h, k) refl

-- what is on a line up to here, and the bytes that it says
record Done (p q : List ℕ) : Type 0 where
  clean : IsInline p
  says : (rest : List ℕ) → unescaped (p ++ rest) ≡ q ++ unescaped rest

nothing : Done [] []
nothing = record { clean = refl; says = λ rest. refl }

said : (p q : List ℕ) → Done p q → unescaped p ≡ q
said p q d = ap unescaped (sym (append-nil p)) ∙ d.says [] ∙ append-nil q

one_more : (p q t : List ℕ) (b : ℕ) → Done p q → IsInline t → ((rest : List ℕ) → unescaped (t ++ rest) ≡ b ∷ unescaped rest) → Done (p ++ t) (q ++ b ∷ [])
one_more p q t b d h k = record {
  clean = joined_clean p t d.clean h;
  says = λ rest. ap unescaped (append_assoc p t rest) ∙ d.says (t ++ rest) ∙ ap (λ u. q ++ u) (k rest) ∙ sym (append_assoc q (b ∷ []) (unescaped rest));
}

-- what a line means when this follows it
abbrev Ends : List ℕ → List ℕ → Type 0
Ends tail meaning = (t : List ℕ) → IsInline t → EndsFirm t → quoted_printable (t ++ tail) ≡ unescaped t ++ meaning

put_last : (tail meaning p q : List ℕ) (b : ℕ) → Ends tail meaning → Done p q → b < 256
    → quoted_printable (p ++ ((last_byte_text b ++ []) ++ tail)) ≡ q ++ (b ∷ meaning)
put_last tail meaning p q b ends d h =
    let t = last_byte_text b in
    let clean : IsInline t = for_bytes is_clean_last yes false clean_last_bytes b h in
    let firm : is_firm (last_of t) ≡ true = for_bytes is_firm_last yes false firm_last_bytes b h in
    let some : 0 < length t = not_zero (length t) (for_bytes is_some_last yes false some_last_bytes b h) in
    let more = one_more p q t b d clean (λ rest. last_back b rest h) in
    ap quoted_printable (ap (λ u. p ++ (u ++ tail)) (append-nil t) ∙ sym (append_assoc p t tail))
    ∙ ends (p ++ t) more.clean (λ _. joined_firm p t some firm)
    ∙ ap (λ u. u ++ meaning) (said (p ++ t) (q ++ b ∷ []) more)
    ∙ append_assoc q (b ∷ []) meaning

abbrev AreBytes : List ℕ → Type 0
AreBytes bs = (k : ℕ) → k < length bs → get_or bs k 0 < 256

-- what is left of a line is written from any column on
abbrev Goes : List ℕ → List ℕ → ℕ → List ℕ → Type 0
Goes tail meaning b bs = (p q : List ℕ) (column : ℕ) → Done p q → quoted_printable (p ++ (broken column (byte_texts (b ∷ bs)) ++ tail)) ≡ q ++ (b ∷ (bs ++ meaning))

put_next : (tail meaning p q : List ℕ) (b c : ℕ) (cs : List ℕ) (column : ℕ) → Goes tail meaning c cs → Done p q → b < 256
    → quoted_printable (p ++ ((byte_text b ++ broken column (byte_texts (c ∷ cs))) ++ tail)) ≡ q ++ (b ∷ c ∷ (cs ++ meaning))
put_next tail meaning p q b c cs column goes d h =
    let t = byte_text b in
    let rest = broken column (byte_texts (c ∷ cs)) in
    let more = one_more p q t b d (for_bytes is_clean yes false clean_bytes b h) (λ rest. byte_back b rest h) in
    ap quoted_printable (ap (λ u. p ++ u) (append_assoc t rest tail) ∙ sym (append_assoc p t (rest ++ tail)))
    ∙ goes (p ++ t) (q ++ b ∷ []) column more
    ∙ append_assoc q (b ∷ []) (c ∷ (cs ++ meaning))

-- after a soft break
softly : (p q rest meant : List ℕ) → Done p q → quoted_printable ([] ++ rest) ≡ [] ++ meant → quoted_printable (p ++ (soft_break ++ rest)) ≡ q ++ meant
softly p q rest meant d e = soft_line p rest d.clean ∙ ap (λ u. u ++ quoted_printable rest) (said p q d) ∙ ap (λ u. q ++ u) e

line_goes : (tail meaning : List ℕ) (b : ℕ) (bs : List ℕ) → Ends tail meaning → AreBytes (b ∷ bs) → Goes tail meaning b bs
line_goes tail meaning b [] ends h p q column d =
    let t = last_byte_text b in
    elim (has_room column t []) as (λ v. quoted_printable (p ++ (cond v (t ++ []) (soft_break ++ (t ++ [])) ++ tail)) ≡ q ++ (b ∷ meaning)) [
      | true ↦ put_last tail meaning p q b ends d (h 0 (omega arith))
      | false ↦ softly p q ((t ++ []) ++ tail) (b ∷ meaning) d (put_last tail meaning [] [] b ends nothing (h 0 (omega arith)))
    ]
line_goes tail meaning b (c ∷ cs) ends h p q column d =
    let t = byte_text b in
    let ts = byte_texts (c ∷ cs) in
    let goes = line_goes tail meaning c cs ends (λ k low. h (suc k) (omega arith)) in
    elim (has_room column t ts) as (λ v. quoted_printable (p ++ (cond v (t ++ broken (column + length t) ts) (soft_break ++ (t ++ broken (length t) ts)) ++ tail)) ≡ q ++ (b ∷ c ∷ (cs ++ meaning))) [
      | true ↦ put_next tail meaning p q b c cs (column + length t) goes d (h 0 (omega arith))
      | false ↦ softly p q ((t ++ broken (length t) ts) ++ tail) (b ∷ c ∷ (cs ++ meaning)) d (put_next tail meaning [] [] b c cs (length t) goes nothing (h 0 (omega arith)))
    ]

line_back : (tail meaning line : List ℕ) → Ends tail meaning → AreBytes line → quoted_printable (line_text line ++ tail) ≡ line ++ meaning
line_back tail meaning [] ends h = ends [] refl (λ some. absurd (omega (arith, some)))
line_back tail meaning (b ∷ bs) ends h = line_goes tail meaning b bs ends h [] [] 0 nothing

-- several lines
abbrev AllBytes : List (List ℕ) → Type 0
AllBytes [] = Unit {0}
AllBytes (l ∷ ls) = AreBytes l × AllBytes ls

lines_back : (l : List ℕ) (ls : List (List ℕ)) → AllBytes (l ∷ ls) → quoted_printable (parted_by crlf (map line_text (l ∷ ls))) ≡ parted_by crlf (l ∷ ls)
lines_back l [] h =
    ap quoted_printable (sym (append-nil (line_text l)))
    ∙ line_back [] [] l (λ t clean firm. ap quoted_printable (append-nil t) ∙ end_line t clean firm ∙ sym (append-nil (unescaped t))) h.0
    ∙ append-nil l
lines_back l (m ∷ ms) h =
    let rest = parted_by crlf (map line_text (m ∷ ms)) in
    line_back (13 ∷ 10 ∷ rest) (13 ∷ 10 ∷ quoted_printable rest) l (λ t clean firm. hard_line t rest clean firm) h.0
    ∙ ap (λ u. l ++ 13 ∷ 10 ∷ u) (lines_back m ms h.1)

bytes_onto : (b : ℕ) (bs : List ℕ) → b < 256 → AreBytes bs → AreBytes (b ∷ bs)
bytes_onto b bs h k zero low = h
bytes_onto b bs h k (suc n) low = k n (omega arith)

all_onto : (b : ℕ) (ls : List (List ℕ)) → b < 256 → AllBytes ls → AllBytes (onto_first b ls)
all_onto b [] h k = (bytes_onto b [] h (λ n low. absurd (omega (arith, low))), tt)
all_onto b (l ∷ ls) h k = (bytes_onto b l h k.0, k.1)

all_split : (bytes : List ℕ) → AreBytes bytes → AllBytes (slice_split is_lf bytes)
all_split [] h = (h, tt)
all_split (b ∷ bs) h =
    let later = all_split bs (λ k low. h (suc k) (omega arith)) in
    elim (eqb b 10) as (λ v. AllBytes (cond v ([] ∷ slice_split is_lf bs) (onto_first b (slice_split is_lf bs)))) [
      | true ↦ ((λ k low. absurd (omega (arith, low))), later)
      | false ↦ all_onto b (slice_split is_lf bs) (h 0 (omega arith)) later
    ]

parted_empty : (ls : List (List ℕ)) → 0 < length ls → parted_by crlf ([] ∷ ls) ≡ crlf ++ parted_by crlf ls
parted_empty [] h = absurd (omega (arith, h))
parted_empty (l ∷ ls) h = refl

parted_onto : (b : ℕ) (ls : List (List ℕ)) → parted_by crlf (onto_first b ls) ≡ b ∷ parted_by crlf ls
parted_onto b [] = refl
parted_onto b (l ∷ []) = refl
parted_onto b (l ∷ m ∷ ms) = refl

split_parted : (bytes : List ℕ) → parted_by crlf (slice_split is_lf bytes) ≡ with_crlf bytes
split_parted [] = refl
split_parted (b ∷ bs) =
    let ls = slice_split is_lf bs in
    elim (eqb b 10) as (λ v. parted_by crlf (cond v ([] ∷ ls) (onto_first b ls)) ≡ cond v crlf (b ∷ []) ++ with_crlf bs) [
      | true ↦ parted_empty ls (omega (arith, length-slice_split is_lf bs)) ∙ ap (λ t. crlf ++ t) (split_parted bs)
      | false ↦ parted_onto b ls ∙ ap (λ t. b ∷ t) (split_parted bs)
    ]

some_back : (ls : List (List ℕ)) → 0 < length ls → AllBytes ls → quoted_printable (parted_by crlf (map line_text ls)) ≡ parted_by crlf ls
some_back [] some h = absurd (omega (arith, some))
some_back (l ∷ ls) some h = lines_back l ls h

pub quoted_back : (bytes : List ℕ) → AreBytes bytes → quoted_printable (quoted_printable_text bytes) ≡ with_crlf bytes
quoted_back bytes h =
    some_back (slice_split is_lf bytes) (omega (arith, length-slice_split is_lf bytes)) (all_split bytes h) ∙ split_parted bytes

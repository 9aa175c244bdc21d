-- A text as it is printed, character by character.
use Rattle.std.proofs.Common.{◌≡◌, ℕ, List, [], ◌++◌, map, length, false, refl, sym, ap, ◌∙◌, append_assoc, append-nil}
use Rattle.std.specs.Str.{IsUtf8, chars, encode_utf8_all}
use Rattle.std.specs.Char.{is_control}
use Rattle.std.proofs.Math.Utf8.{encode}
use Rattle.std.proofs.lemmas.Str.{chars_past_char}
use Rattle.client_lines.specs.Lines.{printed, printed_character}
use Rattle.client_lines.proofs.Written.{none_left}

-- the first character, and the rest
pub printed_step : (text rest : List ℕ) (c : ℕ) → IsUtf8 text → text ≡ encode c ++ rest → printed text ≡ encode (printed_character c) ++ printed rest
printed_step text rest c utf8 parts = ap (λ cs. encode_utf8_all (map printed_character cs)) (chars_past_char text rest c utf8 parts)

pub printed_nil : (text : List ℕ) → text ≡ [] → printed text ≡ []
unfolding chars
printed_nil text is = ap (λ t. encode_utf8_all (map printed_character (chars t))) is

pub printed_empty : (text : List ℕ) → length text ≡ 0 → printed text ≡ text
printed_empty text h = printed_nil text (none_left text h) ∙ sym (none_left text h)

-- a first character that is no control character is printed as it is
pub printed_same : (text rest : List ℕ) (c : ℕ) → IsUtf8 text → text ≡ encode c ++ rest → is_control c ≡ false → printed rest ≡ rest → printed text ≡ text
printed_same text rest c utf8 parts plain same =
    let kept : printed_character c ≡ c = rw plain refl in
    printed_step text rest c utf8 parts ∙ ap (λ d. encode d ++ printed rest) kept ∙ ap (λ t. encode c ++ t) same ∙ sym parts

-- a character more was added
pub printed_more : (old new text rest before all : List ℕ) (c : ℕ) → IsUtf8 text → text ≡ encode c ++ rest → new ≡ old ++ encode (printed_character c)
    → old ++ printed text ≡ before ++ all → new ++ printed rest ≡ before ++ all
printed_more old new text rest before all c utf8 parts more same =
    ap (λ t. t ++ printed rest) more ∙ append_assoc old (encode (printed_character c)) (printed rest)
    ∙ ap (λ t. old ++ t) (sym (printed_step text rest c utf8 parts)) ∙ same

-- all characters were added
pub printed_all : (line rest before all : List ℕ) → rest ≡ [] → line ++ printed rest ≡ before ++ all → line ≡ before ++ all
printed_all line rest before all none same = sym (append-nil line) ∙ ap (λ t. line ++ t) (sym (printed_nil rest none)) ∙ same

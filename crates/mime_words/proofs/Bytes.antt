-- Which bytes are UTF-8 and which are ASCII, as tests.
use Rattle.std.proofs.Common.{◌≡◌, ◌∙◌, map, ℕ, zero, suc, ◌<◌, ◌≤◌, Bool, true, false, not, ◌&&◌, List, [], ◌∷◌, ◌++◌, get_or, refl, sym, ap, append_assoc, arith}
use Rattle.std.specs.List.{list_all}
use Rattle.std.specs.Str.{IsUtf8, is_utf8, IsAscii, IsNotAscii, encode_utf8_all}
use Rattle.std.specs.Bool.{MatchBool}
use Rattle.std.specs.Result.{MatchResult, is_err}
use Rattle.std.specs.Prelude.{Result, Ok, Err}
use Rattle.std.proofs.lemmas.Str.{IsUtf8-from_is_utf8, is_utf8-from_IsUtf8}
use Rattle.std.proofs.lemmas.List.{map-append}
use Rattle.std.proofs.lemmas.Str.{encodes-IsAscii, encodes-append}
use Rattle.mime_words.specs.Charsets.{is_ascii, ascii_character}

utf8_true : (bytes : List ℕ) → IsUtf8 bytes → not (is_utf8 bytes) ≡ false
utf8_true bytes u = ap not (is_utf8-from_IsUtf8 bytes u)

at_test : (bytes : List ℕ) (b : Bool) → is_utf8 bytes ≡ b → (IsUtf8 bytes → ⊥) → not b ≡ true
at_test bytes true is none = absurd (none (IsUtf8-from_is_utf8 bytes is))
at_test bytes false is none = refl

utf8_false : (bytes : List ℕ) → (IsUtf8 bytes → ⊥) → not (is_utf8 bytes) ≡ true
utf8_false bytes none = at_test bytes (is_utf8 bytes) refl none

small : (b : ℕ) → b < 128 → is_ascii b ≡ true
small b h = grind arith

large : (b : ℕ) → 128 ≤ b → is_ascii b ≡ false
large b h = grind arith

ascii_true : (bytes : List ℕ) → IsAscii bytes → list_all is_ascii bytes ≡ true
ascii_true [] all = refl
ascii_true (b ∷ bs) all = rw (small b (all 0)) (ascii_true bs (λ i. all (suc i)))

ascii_false : (bytes : List ℕ) (i : ℕ) → 128 ≤ get_or bytes i 0 → list_all is_ascii bytes ≡ false
ascii_false [] i h = absurd (omega (arith, h))
ascii_false (b ∷ bs) zero h = rw (large b h) refl
ascii_false (b ∷ bs) (suc i) h = elim (is_ascii b) as (λ v. (v && list_all is_ascii bs) ≡ false) [ true ↦ ascii_false bs i h | false ↦ refl ]

pub broken_utf8 : {S E : Type 0} (bytes : List ℕ) (P : S → Type 0) (Q : E → Type 0) (r : Result S E)
    → MatchResult r (λ s. P s × IsUtf8 bytes) (λ e. (IsUtf8 bytes → ⊥) × Q e) → is_err r ≡ not (is_utf8 bytes)
broken_utf8 bytes P Q (Ok s) h = sym (utf8_true bytes h.1)
broken_utf8 bytes P Q (Err e) h = sym (utf8_false bytes h.0)

pub broken_ascii : (bytes : List ℕ) (r : Bool) → MatchBool r (IsAscii bytes) (IsNotAscii bytes) → not r ≡ not (list_all is_ascii bytes)
broken_ascii bytes true h = ap not (sym (ascii_true bytes h))
broken_ascii bytes false h = ap not (sym (ascii_false bytes h.0 h.1))

-- bytes that are all ASCII are their own text
same_character : (b : ℕ) → b < 128 → ascii_character b ≡ b
same_character b h = rw (small b h) refl

same_characters : (bytes : List ℕ) → IsAscii bytes → map ascii_character bytes ≡ bytes
same_characters [] all = refl
same_characters (b ∷ bs) all = rw (same_character b (all 0)) (ap (λ l. b ∷ l) (same_characters bs (λ i. all (suc i))))

pub own_text : (bytes : List ℕ) → IsAscii bytes → encode_utf8_all (map ascii_character bytes) ≡ bytes
own_text bytes all = ap encode_utf8_all (same_characters bytes all) ∙ encodes-IsAscii bytes all

-- the text of a block is added to the text of the blocks before it
pub added : (read : List ℕ → List ℕ) → ((xs ys : List ℕ) → read (xs ++ ys) ≡ read xs ++ read ys) → (old new left block rest whole : List ℕ)
    → new ≡ old ++ read block → left ≡ block ++ rest → old ++ read left ≡ whole → new ++ read rest ≡ whole
added read splits old new left block rest whole pushed is held =
    ap (λ t. t ++ read rest) pushed ∙ append_assoc old (read block) (read rest)
    ∙ ap (λ t. old ++ t) (sym (ap read is ∙ splits block rest)) ∙ held

pub ascii_splits : (xs ys : List ℕ) → encode_utf8_all (map ascii_character (xs ++ ys)) ≡ encode_utf8_all (map ascii_character xs) ++ encode_utf8_all (map ascii_character ys)
ascii_splits xs ys = ap encode_utf8_all (map-append ascii_character xs ys) ∙ encodes-append (map ascii_character xs) (map ascii_character ys)

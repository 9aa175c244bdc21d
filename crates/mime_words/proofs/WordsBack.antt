-- A text that is written in encoded-words is read back.
use Rattle.std.proofs.Common.{◌≡◌, ℕ, zero, suc, ◌+◌, ◌-◌, ◌*◌, ◌<◌, ◌≤◌, Bool, true, false, cond, eqb, leb, ltb, ◌&&◌, ◌||◌, not, List, [], ◌∷◌, ◌++◌, length, take, drop, map, Option, Some, None, codes, refl, sym, ap, ◌∙◌, append_assoc, length-append, arith}
use Rattle.std.specs.List.{concat, filter, list_all, list_any, position_or_len, before_first, after_first}
use Rattle.std.specs.Char.{is_ascii_whitespace}
use Rattle.std.specs.Str.{IsUtf8, chars, encode_utf8_all}
use Rattle.std.proofs.lemmas.Bool.{le-leb, lt-ltb, true≢false}
use Rattle.std.proofs.lemmas.List.{append-nil, drop_at, take_at}
use Rattle.std.proofs.lemmas.Str.{encodes-chars, utf8_lossy-IsUtf8}
use Rattle.mime_lines.specs.Written.{parted_by}
use Rattle.mime_codec.specs.Quoted.{is_between}
use Rattle.mime_codec.specs.Base64Text.{sign, encoded}
use Rattle.mime_codec.proofs.Tables.{counted, for_below}
use Rattle.mime_codec.proofs.Base64Back.{encoded_back}
use Rattle.mime_words.specs.declared.charset.Charset.TheVariants.{Utf8}
use Rattle.mime_words.specs.Words.{◌>>=◌, is_question, at_question, Shape, shape_at, is_good, if_good, content, Word, word_at, Cut, plain, word, cut, is_white, are_one, both, join_first, joined, meaning, said, text_said, without_controls, decoded_words}
use Rattle.mime_words.specs.WrittenWords.{word_text, pieces, words_by, has_word_start, is_plain_text, is_shown}
use Rattle.mime_words.proofs.Shapes.{from_encoded, from_encoding, from_charset}
use Rattle.mime_words.proofs.Cuts.{HasNoSign, word_cut, text_stays}
use Rattle.mime_words.proofs.WordBytes.{AreBytes, AreGood, pieces_are, pieces_good, some_pieces}
use Rattle.mime_words.proofs.WordTexts.{encoded_all}

both_true : (p q : Bool) → (p && q) ≡ true → (p ≡ true) × (q ≡ true)
both_true true q h = (refl, h)
both_true false q h = absurd (true≢false (sym h))

not_true : (p : Bool) → not p ≡ true → p ≡ false
not_true true h = absurd (true≢false (sym h))
not_true false h = refl

-- a text up to its first question mark
abbrev is_inner : ℕ → Bool
is_inner b = not (is_question b)

inner_len : (t rest : List ℕ) → list_all is_inner t ≡ true → position_or_len is_question (t ++ 63 ∷ rest) ≡ length t
inner_len [] rest h = refl
inner_len (b ∷ bs) rest h =
    let parts = both_true (is_inner b) (list_all is_inner bs) h in
    let later = inner_len bs rest parts.1 in
    rw parts.0 (omega (arith, later))

question_back : (t rest : List ℕ) → list_all is_inner t ≡ true → at_question (t ++ 63 ∷ rest) ≡ Some (t, rest)
question_back t rest h =
    let whole = t ++ 63 ∷ rest in
    let place : position_or_len is_question whole ≡ length t = inner_len t rest h in
    let less : length t < length whole = omega (arith, length-append t (63 ∷ rest)) in
    let front : before_first is_question whole ≡ t = ap (λ n. take n whole) place ∙ take_at t (63 ∷ rest) (length t) refl in
    let same : length t + 1 ≡ length (t ++ 63 ∷ []) = omega (arith, length-append t (63 ∷ [])) in
    let back : after_first is_question whole ≡ rest =
    ap (λ n. drop (n + 1) whole) place
    ∙ ap (λ x. drop (length t + 1) x) (sym (append_assoc t (63 ∷ []) rest))
    ∙ drop_at (t ++ 63 ∷ []) rest (length t + 1) (sym same) in
    let pair : List ℕ → List ℕ → Option (List ℕ × List ℕ) = λ a b. Some (a, b) in
    ap (λ n. cond (ltb n (length whole)) (Some (before_first is_question whole, after_first is_question whole)) None) place
    ∙ ap (λ v. cond v (Some (before_first is_question whole, after_first is_question whole)) None) (lt-ltb (length t) (length whole) less)
    ∙ ap (λ a. pair a (after_first is_question whole)) front ∙ ap (pair t) back

-- what base64 is written in: no question mark and no white space
abbrev is_solid : ℕ → Bool
is_solid b = not (is_question b) && not (is_ascii_whitespace b)

abbrev solid_sign : ℕ → Bool
solid_sign n = is_solid (sign n)

abbrev yes : ℕ → Bool
yes n = true

solid_signs : map solid_sign (counted 0 64) ≡ map yes (counted 0 64)
solid_signs = refl

solid : (n : ℕ) → n < 64 → is_solid (sign n) ≡ true
solid n h = for_below solid_sign yes false 64 solid_signs n h

encoded_solid : (bs : List ℕ) → AreBytes bs → list_all is_solid (encoded bs) ≡ true
encoded_solid bs h = encoded_all is_solid solid refl bs h

solid_inner : (t : List ℕ) → list_all is_solid t ≡ true → list_all is_inner t ≡ true
solid_inner [] h = refl
solid_inner (b ∷ bs) h =
    let parts = both_true (is_solid b) (list_all is_solid bs) h in
    rw (both_true (is_inner b) (not (is_ascii_whitespace b)) parts.0).0 (solid_inner bs parts.1)

solid_dark : (t : List ℕ) → list_all is_solid t ≡ true → list_any is_ascii_whitespace t ≡ false
solid_dark [] h = refl
solid_dark (b ∷ bs) h =
    let parts = both_true (is_solid b) (list_all is_solid bs) h in
    rw (not_true (is_ascii_whitespace b) (both_true (is_inner b) (not (is_ascii_whitespace b)) parts.0).1) (solid_dark bs parts.1)

encoded_size : (bs : List ℕ) → 3 * length (encoded bs) ≤ 4 * (length bs + 2)
encoded_size [] = omega arith
encoded_size (a ∷ []) = omega arith
encoded_size (a ∷ b ∷ []) = omega arith
encoded_size (a ∷ b ∷ c ∷ rest) = omega (arith, encoded_size rest)

-- the word of a piece
abbrev held : List ℕ → Word
held bytes = record { charset = Utf8; bytes = bytes }

abbrev shape : List ℕ → List ℕ → Shape
shape bytes rest = record { charset = codes "utf-8"; encoding = codes "B"; encoded = encoded bytes; rest = rest }

-- what follows the equals sign of a word
abbrev inner_text : List ℕ → List ℕ → List ℕ
inner_text bytes rest = 63 ∷ (codes "utf-8" ++ 63 ∷ (codes "B" ++ 63 ∷ (encoded bytes ++ 63 ∷ 61 ∷ rest)))

word_front : (bytes rest : List ℕ) → word_text bytes ++ rest ≡ 61 ∷ inner_text bytes rest
word_front bytes rest = ap (λ t. codes "=?utf-8?B?" ++ t) (append_assoc (encoded bytes) (codes "?=") rest)

shape_back : (bytes rest : List ℕ) → AreBytes bytes → shape_at (61 ∷ inner_text bytes rest) ≡ Some (shape bytes rest)
unfolding shape_at
shape_back bytes rest h =
    let third = encoded bytes ++ 63 ∷ 61 ∷ rest in
    let second = codes "B" ++ 63 ∷ third in
    ap (λ o. o >>= from_charset) (question_back (codes "utf-8") second refl)
    ∙ ap (λ o. o >>= from_encoding (codes "utf-8")) (question_back (codes "B") third refl)
    ∙ ap (λ o. o >>= from_encoded (codes "utf-8") (codes "B")) (question_back (encoded bytes) (61 ∷ rest) (solid_inner (encoded bytes) (encoded_solid bytes h)))

good_word : (bytes rest : List ℕ) → length bytes ≤ 45 → AreBytes bytes → is_good (61 ∷ inner_text bytes rest) (shape bytes rest) ≡ true
good_word bytes rest short h =
    let text = 61 ∷ inner_text bytes rest in
    let size : length text ≡ 12 + length (encoded bytes) + length rest = omega (arith, length-append (encoded bytes) (63 ∷ 61 ∷ rest)) in
    let fits : length text - length rest ≤ 75 = omega (arith, encoded_size bytes, size, short) in
    rw (le-leb (length text - length rest) 75 fits, solid_dark (encoded bytes) (encoded_solid bytes h)) refl

content_back : (bytes rest : List ℕ) → AreBytes bytes → content (shape bytes rest) ≡ Some (held bytes)
unfolding content
content_back bytes rest h = ap (λ b. Some (held b)) (encoded_back bytes h)

abbrev good_from : List ℕ → Shape → Option (Word × List ℕ)
good_from text s = if_good text s >>= (λ good. content good >>= (λ held. Some (held, good.rest)))

word_back : (bytes rest : List ℕ) → length bytes ≤ 45 → AreBytes bytes → word_at (61 ∷ inner_text bytes rest) ≡ Some (held bytes, rest)
unfolding word_at
word_back bytes rest short h =
    let text = 61 ∷ inner_text bytes rest in
    let then : Shape → Option (Word × List ℕ) = λ good. content good >>= (λ held. Some (held, good.rest)) in
    ap (λ o. o >>= good_from text) (shape_back bytes rest h)
    ∙ ap (λ v. cond v (Some (shape bytes rest)) None >>= then) (good_word bytes rest short h)
    ∙ ap (λ o. o >>= (λ held. Some (held, rest))) (content_back bytes rest h)

-- the cut of several words
abbrev cut_of : List ℕ → List ℕ → List ℕ → List (List ℕ) → Cut
cut_of between front p [] = word front (held p) (plain [])
cut_of between front p (q ∷ qs) = word front (held p) (cut_of between between q qs)

one_cut : (front p rest : List ℕ) → HasNoSign front → length p ≤ 45 → AreBytes p → cut (front ++ (word_text p ++ rest)) ≡ word front (held p) (cut rest)
one_cut front p rest none short h =
    ap (λ t. cut (front ++ t)) (word_front p rest) ∙ word_cut front (inner_text p rest) (held p) rest none (word_back p rest short h)

words_cut : (between front p : List ℕ) (ps : List (List ℕ)) → HasNoSign between → HasNoSign front → AreGood (p ∷ ps)
    → cut (front ++ parted_by between (map word_text (p ∷ ps))) ≡ cut_of between front p ps
words_cut between front p [] b none h =
    ap (λ t. cut (front ++ t)) (sym (append-nil (word_text p))) ∙ one_cut front p [] none h.0 h.1
words_cut between front p (q ∷ qs) b none h =
    one_cut front p (between ++ parted_by between (map word_text (q ∷ qs))) none h.0 h.1
    ∙ ap (word front (held p)) (words_cut between between q qs b b h.2)

-- they are read as one
words_joined : (between front p : List ℕ) (ps : List (List ℕ)) → is_white between ≡ true → joined (cut_of between front p ps) ≡ word front (held (p ++ concat ps)) (plain [])
words_joined between front p [] white = ap (λ t. word front (held t) (plain [])) (sym (append-nil p))
words_joined between front p (q ∷ qs) white =
    let all = q ++ concat qs in
    let same : are_one (held p) between (held all) ≡ true = rw white refl in
    ap (join_first front (held p)) (words_joined between between q qs white)
    ∙ ap (λ v. cond v (word front (both (held p) (held all)) (plain [])) (word front (held p) (word between (held all) (plain [])))) same

-- and mean the text
kept : (cs : List ℕ) → list_all is_shown cs ≡ true → filter is_shown cs ≡ cs
kept [] h = refl
kept (c ∷ cs) h =
    let parts = both_true (is_shown c) (list_all is_shown cs) h in
    rw parts.0 (ap (λ t. c ∷ t) (kept cs parts.1))

meaning_back : (text : List ℕ) → IsUtf8 text → list_all is_shown (chars text) ≡ true → meaning (held text) ≡ text
meaning_back text u h =
    ap without_controls (utf8_lossy-IsUtf8 text u) ∙ ap encode_utf8_all (kept (chars text) h) ∙ encodes-chars text u

white_sign : (text : List ℕ) → is_white text ≡ true → HasNoSign text
white_sign [] h k low e = omega (arith, low)
white_sign (b ∷ bs) h zero low e =
    true≢false (sym (both_true (is_ascii_whitespace b) (is_white bs) h).0 ∙ ap is_ascii_whitespace e)
white_sign (b ∷ bs) h (suc k) low e = white_sign bs (both_true (is_ascii_whitespace b) (is_white bs) h).1 k (omega arith) e

pieces_back : (between : List ℕ) (ps : List (List ℕ)) (text : List ℕ) → is_white between ≡ true → AreGood ps → concat ps ≡ text → 0 < length ps
    → IsUtf8 text → list_all is_shown (chars text) ≡ true → decoded_words (parted_by between (map word_text ps)) ≡ text
pieces_back between [] text white good is some u h = absurd (omega (arith, some))
pieces_back between (p ∷ ps) text white good is some u h =
    ap text_said (words_cut between [] p ps (white_sign between white) (λ k low. absurd (omega (arith, low))) good)
    ∙ ap (said false) (words_joined between [] p ps white)
    ∙ append-nil (meaning (held (p ++ concat ps)))
    ∙ ap (λ t. meaning (held t)) is ∙ meaning_back text u h

pub words_back : (between text : List ℕ) → is_white between ≡ true → IsUtf8 text → list_all is_shown (chars text) ≡ true → decoded_words (words_by between text) ≡ text
words_back between text white u h = pieces_back between (pieces text) text white (pieces_good text u) (pieces_are text u) (some_pieces text) u h

-- a text that is written as it is has no =?
start_found : (front rest : List ℕ) → has_word_start (front ++ 61 ∷ 63 ∷ rest) ≡ true
start_found [] rest = refl
start_found (b ∷ []) rest = elim (eqb b 61 && false) as (λ v. (v || true) ≡ true) [ true ↦ refl | false ↦ refl ]
start_found (b ∷ c ∷ cs) rest = elim (eqb b 61 && eqb c 63) as (λ v. (v || has_word_start (c ∷ (cs ++ 61 ∷ 63 ∷ rest))) ≡ true) [ true ↦ refl | false ↦ start_found (c ∷ cs) rest ]

pub plain_back : (text : List ℕ) → is_plain_text text ≡ true → decoded_words text ≡ text
plain_back text h =
    let parts = both_true (leb (length text) 900) (list_all (is_between 32 126) text && not (has_word_start text)) h in
    let none : has_word_start text ≡ false = not_true (has_word_start text) (both_true (list_all (is_between 32 126) text) (not (has_word_start text)) parts.1).1 in
    text_stays text (λ front rest e. true≢false (sym (start_found front rest) ∙ ap has_word_start (sym e) ∙ none))

-- A step of writing encoded-words.
use Rattle.std.proofs.Common.{◌≡◌, ℕ, ◌+◌, ◌-◌, ◌≤◌, ◌<◌, true, false, cond, leb, List, [], ◌∷◌, ◌++◌, length, map, refl, sym, ap, ◌∙◌, append_assoc, length-append, arith}
use Rattle.std.specs.Char.{len_utf8}
use Rattle.std.specs.Str.{chars}
use Rattle.std.proofs.lemmas.Bool.{le-leb, lt-leb}
use Rattle.std.proofs.lemmas.List.{append-nil}
use Rattle.std.proofs.lemmas.Str.{length-encode}
use lib.Utf8.{encode}
use Rattle.mime_lines.specs.Written.{parted_by}
use Rattle.mime_words.specs.WrittenWords.{onto_piece, pieces_from, word_text, words_by}
use Rattle.mime_writer.specs.Pieces.{words_from}

onto_both : (p q : List ℕ) (ps : List (List ℕ)) → onto_piece p (onto_piece q ps) ≡ onto_piece (p ++ q) ps
onto_both p q [] = refl
onto_both p q (r ∷ rs) = ap (λ t. t ∷ rs) (sym (append_assoc p q r))

onto_nothing : (room : ℕ) (cs : List ℕ) → onto_piece [] (pieces_from room cs) ≡ pieces_from room cs
onto_nothing room [] = refl
onto_nothing room (c ∷ cs) =
    elim (leb (len_utf8 c) room) as (λ v. onto_piece [] (cond v (onto_piece (encode c) (pieces_from (room - len_utf8 c) cs)) ([] ∷ onto_piece (encode c) (pieces_from (45 - len_utf8 c) cs)))
    ≡ cond v (onto_piece (encode c) (pieces_from (room - len_utf8 c) cs)) ([] ∷ onto_piece (encode c) (pieces_from (45 - len_utf8 c) cs))) [
      | true ↦ onto_both [] (encode c) (pieces_from (room - len_utf8 c) cs)
      | false ↦ refl
    ]

pub words_begin : (between text : List ℕ) → words_from between [] (chars text) ≡ words_by between text
words_begin between text = ap (λ ps. parted_by between (map word_text ps)) (onto_nothing 45 (chars text))

pub words_end : (between p : List ℕ) → words_from between p [] ≡ word_text p
words_end between p = ap word_text (append-nil p)

-- a character that the piece has room for
pub words_stay : (between p cs : List ℕ) (c : ℕ) → length p + len_utf8 c ≤ 45 → words_from between (p ++ encode c) cs ≡ words_from between p (c ∷ cs)
words_stay between p cs c h =
    let size : length (p ++ encode c) ≡ length p + len_utf8 c = length-append p (encode c) ∙ ap (λ n. length p + n) (length-encode c) in
    let left : 45 - length (p ++ encode c) ≡ 45 - length p - len_utf8 c = omega (arith, size, h) in
    let fits : leb (len_utf8 c) (45 - length p) ≡ true = le-leb (len_utf8 c) (45 - length p) (omega (arith, h)) in
    let rest = pieces_from (45 - length p - len_utf8 c) cs in
    ap (λ n. parted_by between (map word_text (onto_piece (p ++ encode c) (pieces_from n cs)))) left
    ∙ ap (λ ps. parted_by between (map word_text ps)) (sym (onto_both p (encode c) rest))
    ∙ ap (λ v. parted_by between (map word_text (onto_piece p (cond v (onto_piece (encode c) rest) ([] ∷ onto_piece (encode c) (pieces_from (45 - len_utf8 c) cs)))))) (sym fits)

parted_more : (between p t : List ℕ) (ps : List (List ℕ)) → parted_by between (map word_text (p ∷ onto_piece t ps)) ≡ word_text p ++ (between ++ parted_by between (map word_text (onto_piece t ps)))
parted_more between p t [] = refl
parted_more between p t (q ∷ qs) = refl

-- a character that begins the next piece
pub words_break : (between p cs : List ℕ) (c : ℕ) → 45 < length p + len_utf8 c → length p ≤ 45
    → word_text p ++ (between ++ words_from between (encode c) cs) ≡ words_from between p (c ∷ cs)
words_break between p cs c h small =
    let left : 45 - length (encode c) ≡ 45 - len_utf8 c = ap (λ n. 45 - n) (length-encode c) in
    let full : leb (len_utf8 c) (45 - length p) ≡ false = lt-leb (len_utf8 c) (45 - length p) (omega (arith, h, small)) in
    let rest = pieces_from (45 - len_utf8 c) cs in
    ap (λ n. word_text p ++ (between ++ parted_by between (map word_text (onto_piece (encode c) (pieces_from n cs))))) left
    ∙ sym (parted_more between p (encode c) rest)
    ∙ ap (λ q. parted_by between (map word_text (q ∷ onto_piece (encode c) rest))) (sym (append-nil p))
    ∙ ap (λ v. parted_by between (map word_text (onto_piece p (cond v (onto_piece (encode c) (pieces_from (45 - length p - len_utf8 c) cs)) ([] ∷ onto_piece (encode c) rest))))) (sym full)

pub small_piece : (p : List ℕ) (c : ℕ) → length p + len_utf8 c ≤ 45 → length (p ++ encode c) ≤ 45
small_piece p c h = omega (arith, length-append p (encode c), length-encode c, h)

pub empty : (xs : List ℕ) → length xs ≡ 0 → xs ≡ []
empty [] h = refl
empty (x ∷ xs) h = absurd (omega (arith, h))

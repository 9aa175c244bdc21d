-- The bytes of a text that is cut into pieces.
use Rattle.std.proofs.Common.{◌≡◌, ℕ, zero, suc, ◌+◌, ◌-◌, ◌/◌, ◌<◌, ◌≤◌, Bool, true, false, cond, leb, ◌&&◌, List, [], ◌∷◌, ◌++◌, length, get_or, inl, inr, refl, sym, ap, subst, ◌∙◌, append_assoc, length-append, arith}
use Rattle.std.specs.List.{concat}
use Rattle.std.specs.Char.{len_utf8}
use Rattle.std.specs.Str.{IsUtf8, chars, encode_utf8_all}
use Rattle.std.proofs.lemmas.Bool.{leb-true, ltb-true, true≢false}
use Rattle.std.proofs.lemmas.Str.{len_utf8_bounds, length-encode, encodes-chars}
use lib.Utf8.{encode, next, scalar, scalars, scalar_cases}
use lib.Dec.{ltb}
use Rattle.mime_words.specs.WrittenWords.{onto_piece, pieces_from, pieces}

abbrev pub AreBytes : List ℕ → Type 0
AreBytes bs = (k : ℕ) → k < length bs → get_or bs k 0 < 256

bytes_onto : (b : ℕ) (bs : List ℕ) → b < 256 → AreBytes bs → AreBytes (b ∷ bs)
bytes_onto b bs h k zero low = h
bytes_onto b bs h k (suc n) low = k n (omega arith)

no_bytes : AreBytes []
no_bytes k low = absurd (omega (arith, low))

bytes_both : (xs ys : List ℕ) → AreBytes xs → AreBytes ys → AreBytes (xs ++ ys)
bytes_both [] ys h k = k
bytes_both (x ∷ xs) ys h k = bytes_onto x (xs ++ ys) (h 0 (omega arith)) (bytes_both xs ys (λ n low. h (suc n) (omega arith)) k)

bytes_front : (xs ys : List ℕ) → AreBytes (xs ++ ys) → AreBytes xs
bytes_front [] ys h = no_bytes
bytes_front (x ∷ xs) ys h = bytes_onto x xs (h 0 (omega arith)) (bytes_front xs ys (λ n low. h (suc n) (omega arith)))

bytes_back : (xs ys : List ℕ) → AreBytes (xs ++ ys) → AreBytes ys
bytes_back [] ys h = h
bytes_back (x ∷ xs) ys h = bytes_back xs ys (λ n low. h (suc n) (omega arith))

next_small : (c : ℕ) → next c < 256
next_small c = omega arith

two_small : (a c : ℕ) → a < 256 → AreBytes (a ∷ next c ∷ [])
two_small a c h = bytes_onto a (next c ∷ []) h (bytes_onto (next c) [] (next_small c) no_bytes)

three_small : (a b c : ℕ) → a < 256 → AreBytes (a ∷ next b ∷ next c ∷ [])
three_small a b c h = bytes_onto a (next b ∷ next c ∷ []) h (two_small (next b) c (next_small b))

four_small : (a b c d : ℕ) → a < 256 → AreBytes (a ∷ next b ∷ next c ∷ next d ∷ [])
four_small a b c d h = bytes_onto a (next b ∷ next c ∷ next d ∷ []) h (three_small (next b) c d (next_small b))

abbrev four : ℕ → List ℕ
four c = (240 + c / 262144) ∷ next (c / 4096) ∷ next (c / 64) ∷ next c ∷ []

abbrev three : ℕ → List ℕ
three c = cond (ltb c 65536) ((224 + c / 4096) ∷ next (c / 64) ∷ next c ∷ []) (four c)

abbrev two : ℕ → List ℕ
two c = cond (ltb c 2048) ((192 + c / 64) ∷ next c ∷ []) (three c)

small_three : (c : ℕ) → c < 1114112 → AreBytes (three c)
small_three c h = elim (ltb c 65536) as (λ v. ltb c 65536 ≡ v → AreBytes (cond v ((224 + c / 4096) ∷ next (c / 64) ∷ next c ∷ []) (four c))) [
  | true ↦ λ e. three_small (224 + c / 4096) (c / 64) c (omega (arith, ltb-true c 65536 e))
  | false ↦ λ _. four_small (240 + c / 262144) (c / 4096) (c / 64) c (omega (arith, h))
] refl

small_two : (c : ℕ) → c < 1114112 → AreBytes (two c)
small_two c h = elim (ltb c 2048) as (λ v. ltb c 2048 ≡ v → AreBytes (cond v ((192 + c / 64) ∷ next c ∷ []) (three c))) [
  | true ↦ λ e. two_small (192 + c / 64) c (omega (arith, ltb-true c 2048 e))
  | false ↦ λ _. small_three c h
] refl

one_small : (c : ℕ) → c < 1114112 → AreBytes (encode c)
unfolding encode
one_small c h = elim (ltb c 128) as (λ v. ltb c 128 ≡ v → AreBytes (cond v (c ∷ []) (two c))) [
  | true ↦ λ e. bytes_onto c [] (omega (arith, ltb-true c 128 e)) no_bytes
  | false ↦ λ _. small_two c h
] refl

scalar_small : (c : ℕ) → scalar c ≡ true → c < 1114112
scalar_small c h = elim (scalar_cases c h) [ inl low ↦ omega arith | inr high ↦ high.1 ]

both_true : (p q : Bool) → (p && q) ≡ true → (p ≡ true) × (q ≡ true)
both_true true q h = (refl, h)
both_true false q h = absurd (true≢false (sym h))

all_small : (cs : List ℕ) → scalars cs ≡ true → AreBytes (encode_utf8_all cs)
all_small [] h = no_bytes
all_small (c ∷ cs) h =
    let parts = both_true (scalar c) (scalars cs) h in
    bytes_both (encode c) (encode_utf8_all cs) (one_small c (scalar_small c parts.0)) (all_small cs parts.1)

pub utf8_bytes : (text : List ℕ) → IsUtf8 text → AreBytes text
utf8_bytes text u = subst AreBytes u.1.1 (all_small u.0 u.1.0)

-- the pieces of a text
concat_onto : (t : List ℕ) (ps : List (List ℕ)) → concat (onto_piece t ps) ≡ t ++ concat ps
concat_onto t [] = refl
concat_onto t (p ∷ ps) = append_assoc t p (concat ps)

concat_pieces : (room : ℕ) (cs : List ℕ) → concat (pieces_from room cs) ≡ encode_utf8_all cs
concat_pieces room [] = refl
concat_pieces room (c ∷ cs) =
    elim (leb (len_utf8 c) room) as (λ v. concat (cond v (onto_piece (encode c) (pieces_from (room - len_utf8 c) cs)) ([] ∷ onto_piece (encode c) (pieces_from (45 - len_utf8 c) cs))) ≡ encode c ++ encode_utf8_all cs) [
      | true ↦ concat_onto (encode c) (pieces_from (room - len_utf8 c) cs) ∙ ap (λ t. encode c ++ t) (concat_pieces (room - len_utf8 c) cs)
      | false ↦ concat_onto (encode c) (pieces_from (45 - len_utf8 c) cs) ∙ ap (λ t. encode c ++ t) (concat_pieces (45 - len_utf8 c) cs)
    ]

pub pieces_are : (text : List ℕ) → IsUtf8 text → concat (pieces text) ≡ text
pieces_are text u = concat_pieces 45 (chars text) ∙ encodes-chars text u

-- the first has so many bytes at most, and each other 45
abbrev Fits : ℕ → List (List ℕ) → Type 0
Fits room [] = Unit {0}
Fits room (p ∷ ps) = (length p ≤ room) × Fits 45 ps

fits_onto : (room : ℕ) (t : List ℕ) (ps : List (List ℕ)) → length t ≤ room → Fits (room - length t) ps → Fits room (onto_piece t ps)
fits_onto room t [] h k = (h, tt)
fits_onto room t (p ∷ ps) h k = (omega (arith, length-append t p, k.0), k.1)

fits_pieces : (room : ℕ) (cs : List ℕ) → Fits room (pieces_from room cs)
fits_pieces room [] = (omega arith, tt)
fits_pieces room (c ∷ cs) =
    let size : length (encode c) ≡ len_utf8 c = length-encode c in
    elim (leb (len_utf8 c) room) as (λ v. leb (len_utf8 c) room ≡ v → Fits room (cond v (onto_piece (encode c) (pieces_from (room - len_utf8 c) cs)) ([] ∷ onto_piece (encode c) (pieces_from (45 - len_utf8 c) cs)))) [
      | true ↦ λ e. fits_onto room (encode c) (pieces_from (room - len_utf8 c) cs) (omega (arith, size, leb-true (len_utf8 c) room e))
          (subst (λ n. Fits (room - n) (pieces_from (room - len_utf8 c) cs)) (sym size) (fits_pieces (room - len_utf8 c) cs))
      | false ↦ λ _. (
        omega arith,
        fits_onto 45 (encode c) (pieces_from (45 - len_utf8 c) cs) (omega (arith, size, (len_utf8_bounds c).1))
            (subst (λ n. Fits (45 - n) (pieces_from (45 - len_utf8 c) cs)) (sym size) (fits_pieces (45 - len_utf8 c) cs)),
      )
    ] refl

-- each is short, and has bytes
abbrev pub AreGood : List (List ℕ) → Type 0
AreGood [] = Unit {0}
AreGood (p ∷ ps) = (length p ≤ 45) × AreBytes p × AreGood ps

good_pieces : (ps : List (List ℕ)) → Fits 45 ps → AreBytes (concat ps) → AreGood ps
good_pieces [] h k = tt
good_pieces (p ∷ ps) h k = (h.0, bytes_front p (concat ps) k, good_pieces ps h.1 (bytes_back p (concat ps) k))

pub pieces_good : (text : List ℕ) → IsUtf8 text → AreGood (pieces text)
pieces_good text u = good_pieces (pieces text) (fits_pieces 45 (chars text)) (subst AreBytes (sym (pieces_are text u)) (utf8_bytes text u))

onto_some : (t : List ℕ) (ps : List (List ℕ)) → 0 < length (onto_piece t ps)
onto_some t [] = omega arith
onto_some t (p ∷ ps) = omega arith

some_from : (room : ℕ) (cs : List ℕ) → 0 < length (pieces_from room cs)
some_from room [] = omega arith
some_from room (c ∷ cs) = elim (leb (len_utf8 c) room) as (λ v. 0 < length (cond v (onto_piece (encode c) (pieces_from (room - len_utf8 c) cs)) ([] ∷ onto_piece (encode c) (pieces_from (45 - len_utf8 c) cs)))) [
  | true ↦ onto_some (encode c) (pieces_from (room - len_utf8 c) cs)
  | false ↦ omega arith
]

pub some_pieces : (text : List ℕ) → 0 < length (pieces text)
some_pieces text = some_from 45 (chars text)

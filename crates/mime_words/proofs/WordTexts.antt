-- What a text in encoded-words is written in.
use Rattle.std.proofs.Common.{◌≡◌, ℕ, suc, ◌+◌, ◌*◌, ◌/◌, ◌%◌, ◌<◌, Bool, true, false, List, [], ◌∷◌, ◌++◌, length, map, codes, refl, sym, ap, ◌∙◌, append_assoc, arith}
use Rattle.std.specs.List.{list_all}
use Rattle.std.specs.Str.{IsUtf8}
use Rattle.std.proofs.lemmas.List.Folds.{list_all-append}
use Rattle.mime_lines.specs.Written.{fold, is_inline, parted_by}
use Rattle.mime_lines.proofs.FoldedTexts.{Folds, AllFold, folds_fold, folds_inline, folds_parted}
use Rattle.mime_codec.specs.Base64Text.{sign, encoded}
use Rattle.mime_codec.proofs.Tables.{counted, for_below}
use Rattle.mime_words.specs.WrittenWords.{word_text, pieces, words_by, words_text}
use Rattle.mime_words.proofs.WordBytes.{AreBytes, AreGood, pieces_good, some_pieces}

-- each character of the alphabet passes a test
abbrev pub SignsPass : (ℕ → Bool) → Type 0
SignsPass test = (n : ℕ) → n < 64 → test (sign n) ≡ true

sign_onto : (test : ℕ → Bool) → SignsPass test → (n : ℕ) (t : List ℕ) → n < 64 → list_all test t ≡ true → list_all test (sign n ∷ t) ≡ true
sign_onto test signs n t h k = rw (signs n h) k

pub encoded_all : (test : ℕ → Bool) → SignsPass test → test 61 ≡ true → (bs : List ℕ) → AreBytes bs → list_all test (encoded bs) ≡ true
encoded_all test signs pad [] h = refl
encoded_all test signs pad (a ∷ []) h =
    let small : a < 256 = h 0 (omega arith) in
    let end : list_all test (61 ∷ 61 ∷ []) ≡ true = rw pad refl in
    sign_onto test signs (a / 4) (sign (a % 4 * 16) ∷ 61 ∷ 61 ∷ []) (omega arith) (sign_onto test signs (a % 4 * 16) (61 ∷ 61 ∷ []) (omega arith) end)
encoded_all test signs pad (a ∷ b ∷ []) h =
    let small : a < 256 = h 0 (omega arith) in
    let small' : b < 256 = h 1 (omega arith) in
    let end : list_all test (61 ∷ []) ≡ true = rw pad refl in
    sign_onto test signs (a / 4) (sign (a % 4 * 16 + b / 16) ∷ sign (b % 16 * 4) ∷ 61 ∷ []) (omega arith)
    (sign_onto test signs (a % 4 * 16 + b / 16) (sign (b % 16 * 4) ∷ 61 ∷ []) (omega arith) (sign_onto test signs (b % 16 * 4) (61 ∷ []) (omega arith) end))
encoded_all test signs pad (a ∷ b ∷ c ∷ rest) h =
    let small : a < 256 = h 0 (omega arith) in
    let small' : b < 256 = h 1 (omega arith) in
    let small'' : c < 256 = h 2 (omega arith) in
    let later = encoded_all test signs pad rest (λ k low. h (suc (suc (suc k))) (omega arith)) in
    let y = b % 16 * 4 + c / 64 in
    let x = a % 4 * 16 + b / 16 in
    sign_onto test signs (a / 4) (sign x ∷ sign y ∷ sign (c % 64) ∷ encoded rest) (omega arith)
    (sign_onto test signs x (sign y ∷ sign (c % 64) ∷ encoded rest) (omega arith)
    (sign_onto test signs y (sign (c % 64) ∷ encoded rest) (omega arith) (sign_onto test signs (c % 64) (encoded rest) (omega arith) later)))

-- each character that an encoded-word may have passes a test
pub record Passes (test : ℕ → Bool) : Type 0 where
  pub signs : SignsPass test
  pub begins : list_all test (codes "=?utf-8?B?") ≡ true
  pub ends : list_all test (codes "?=") ≡ true
  pub pad : test 61 ≡ true

both_all : (test : ℕ → Bool) (a b : List ℕ) → list_all test a ≡ true → list_all test b ≡ true → list_all test (a ++ b) ≡ true
both_all test a b h k = list_all-append test a b ∙ rw (h, k) refl

word_all : (test : ℕ → Bool) → Passes test → (bytes : List ℕ) → AreBytes bytes → list_all test (word_text bytes) ≡ true
word_all test p bytes h =
    both_all test (codes "=?utf-8?B?") (encoded bytes ++ codes "?=") p.begins (both_all test (encoded bytes) (codes "?=") (encoded_all test p.signs p.pad bytes h) p.ends)

pieces_all : (test : ℕ → Bool) → Passes test → (between : List ℕ) → list_all test between ≡ true → (ps : List (List ℕ)) → AreGood ps
    → list_all test (parted_by between (map word_text ps)) ≡ true
pieces_all test p between b [] h = refl
pieces_all test p between b (q ∷ []) h = word_all test p q h.1
pieces_all test p between b (q ∷ r ∷ rs) h =
    both_all test (word_text q) (between ++ parted_by between (map word_text (r ∷ rs))) (word_all test p q h.1)
    (both_all test between (parted_by between (map word_text (r ∷ rs))) b (pieces_all test p between b (r ∷ rs) h.2))

pub words_all : (test : ℕ → Bool) → Passes test → (between text : List ℕ) → list_all test between ≡ true → IsUtf8 text → list_all test (words_by between text) ≡ true
words_all test p between text b u = pieces_all test p between b (pieces text) (pieces_good text u)

-- encoded-words are each on one line
abbrev inline_sign : ℕ → Bool
inline_sign n = is_inline (sign n)

abbrev yes : ℕ → Bool
yes n = true

inline_signs : map inline_sign (counted 0 64) ≡ map yes (counted 0 64)
inline_signs = refl

inline_passes : Passes is_inline
inline_passes = record { signs = for_below inline_sign yes false 64 inline_signs; begins = refl; ends = refl; pad = refl }

all_fold : (ps : List (List ℕ)) → AreGood ps → AllFold (map word_text ps) (map word_text ps)
all_fold [] h = tt
all_fold (p ∷ ps) h = (folds_inline (word_text p) (word_all is_inline inline_passes p h.1), all_fold ps h.2)

pub words_fold : (text : List ℕ) → IsUtf8 text → Folds (words_text text) (words_by (32 ∷ []) text)
words_fold text u = folds_parted fold (32 ∷ []) (map word_text (pieces text)) (map word_text (pieces text)) folds_fold (all_fold (pieces text) (pieces_good text u))

-- they begin and end with an equals sign
pub record Ends (t : List ℕ) : Type 0 where
  pub within : List ℕ
  pub is : t ≡ 61 ∷ (within ++ 61 ∷ [])

word_ends : (bytes : List ℕ) → Ends (word_text bytes)
word_ends bytes = record {
  within = codes "?utf-8?B?" ++ (encoded bytes ++ 63 ∷ []);
  is = ap (λ t. codes "=?utf-8?B?" ++ t) (sym (append_assoc (encoded bytes) (63 ∷ []) (61 ∷ [])));
}

ends_after : (bytes between t : List ℕ) → Ends t → Ends (word_text bytes ++ (between ++ t))
ends_after bytes between t e =
    let front = codes "?utf-8?B?" ++ (encoded bytes ++ codes "?=") in
    record {
      within = front ++ (between ++ 61 ∷ e.within);
      is = ap (λ u. word_text bytes ++ (between ++ u)) e.is
          ∙ ap (λ u. 61 ∷ (front ++ u)) (sym (append_assoc between (61 ∷ e.within) (61 ∷ [])))
          ∙ ap (λ u. 61 ∷ u) (sym (append_assoc front (between ++ 61 ∷ e.within) (61 ∷ [])));
    }

pieces_ends : (between : List ℕ) (ps : List (List ℕ)) → 0 < length ps → Ends (parted_by between (map word_text ps))
pieces_ends between [] h = absurd (omega (arith, h))
pieces_ends between (p ∷ []) h = word_ends p
pieces_ends between (p ∷ q ∷ qs) h = ends_after p between (parted_by between (map word_text (q ∷ qs))) (pieces_ends between (q ∷ qs) (omega arith))

pub words_ends : (between text : List ℕ) → Ends (words_by between text)
words_ends between text = pieces_ends between (pieces text) (some_pieces text)

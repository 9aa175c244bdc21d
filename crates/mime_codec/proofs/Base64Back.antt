-- What is written in base64 is read back.
use Rattle.std.proofs.Common.{◌≡◌, ℕ, zero, suc, ◌+◌, ◌*◌, ◌/◌, ◌%◌, ◌<◌, Bool, true, false, cond, eqb, List, [], ◌∷◌, length, get_or, map, Option, None, Some, refl, sym, ap, ◌∙◌, arith}
use Rattle.mime_codec.specs.Base64.{letter, with_letter, letters, packed, base64}
use Rattle.mime_codec.specs.Base64Text.{sign, encoded, wrapped, base64_text}
use Rattle.mime_codec.proofs.Tables.{counted, for_below}
use Rattle.mime_codec.proofs.Letters.{one_letter}

abbrev letter_of_sign : ℕ → Option ℕ
letter_of_sign n = letter (sign n)

abbrev itself : ℕ → Option ℕ
itself n = Some n

signs_are : map letter_of_sign (counted 0 64) ≡ map itself (counted 0 64)
signs_are = refl

letter_sign : (n : ℕ) → n < 64 → letter (sign n) ≡ Some n
letter_sign n h = for_below letter_of_sign itself None 64 signs_are n h

onto_letters : (n : ℕ) (bs : List ℕ) → n < 64 → letters (sign n ∷ bs) ≡ n ∷ letters bs
onto_letters n bs h = one_letter (sign n) n bs (letter_sign n h)

-- bytes from their bits
first_byte : (a v : ℕ) → v < 16 → a / 4 * 4 + (a % 4 * 16 + v) / 16 ≡ a
first_byte a v h = omega arith

second_byte : (a b v : ℕ) → b < 256 → v < 4 → (a % 4 * 16 + b / 16) % 16 * 16 + (b % 16 * 4 + v) / 4 ≡ b
second_byte a b v h k = omega arith

third_byte : (b c : ℕ) → c < 256 → (b % 16 * 4 + c / 64) % 4 * 64 + c % 64 ≡ c
third_byte b c h = omega arith

abbrev AreBytes : List ℕ → Type 0
AreBytes bs = (k : ℕ) → k < length bs → get_or bs k 0 < 256

two_signs : (w x : ℕ) (t : List ℕ) → w < 64 → x < 64 → letters (sign w ∷ sign x ∷ t) ≡ w ∷ x ∷ letters t
two_signs w x t h k = onto_letters w (sign x ∷ t) h ∙ ap (λ u. w ∷ u) (onto_letters x t k)

abbrev three_bytes : ℕ → ℕ → ℕ → ℕ → List ℕ → List ℕ
three_bytes w x y z t = (w * 4 + x / 16) ∷ (x % 16 * 16 + y / 4) ∷ (y % 4 * 64 + z) ∷ t

pub encoded_back : (bytes : List ℕ) → AreBytes bytes → base64 (encoded bytes) ≡ bytes
encoded_back [] h = refl
encoded_back (a ∷ []) h =
    let small : a < 256 = h 0 (omega arith) in
    let none : a % 4 * 16 + 0 ≡ a % 4 * 16 = omega arith in
    ap packed (two_signs (a / 4) (a % 4 * 16) (61 ∷ 61 ∷ []) (omega arith) (omega arith))
    ∙ ap (λ x. x ∷ []) (ap (λ x. a / 4 * 4 + x / 16) (sym none) ∙ first_byte a 0 (omega arith))
encoded_back (a ∷ b ∷ []) h =
    let small : a < 256 = h 0 (omega arith) in
    let small' : b < 256 = h 1 (omega arith) in
    let w = a / 4 in
    let x = a % 4 * 16 + b / 16 in
    let y = b % 16 * 4 in
    let none : b % 16 * 4 + 0 ≡ b % 16 * 4 = omega arith in
    let three : letters (sign w ∷ sign x ∷ sign y ∷ 61 ∷ []) ≡ w ∷ x ∷ y ∷ [] =
    two_signs w x (sign y ∷ 61 ∷ []) (omega arith) (omega arith) ∙ ap (λ t. w ∷ x ∷ t) (onto_letters y (61 ∷ []) (omega arith)) in
    ap packed three ∙ ap (λ t. t ∷ (x % 16 * 16 + y / 4) ∷ []) (first_byte a (b / 16) (omega arith))
    ∙ ap (λ t. a ∷ t ∷ []) (ap (λ t. x % 16 * 16 + t / 4) (sym none) ∙ second_byte a b 0 small' (omega arith))
encoded_back (a ∷ b ∷ c ∷ rest) h =
    let small : a < 256 = h 0 (omega arith) in
    let small' : b < 256 = h 1 (omega arith) in
    let small'' : c < 256 = h 2 (omega arith) in
    let w = a / 4 in
    let x = a % 4 * 16 + b / 16 in
    let y = b % 16 * 4 + c / 64 in
    let z = c % 64 in
    let four : letters (sign w ∷ sign x ∷ sign y ∷ sign z ∷ encoded rest) ≡ w ∷ x ∷ y ∷ z ∷ letters (encoded rest) =
    two_signs w x (sign y ∷ sign z ∷ encoded rest) (omega arith) (omega arith)
    ∙ ap (λ t. w ∷ x ∷ t) (two_signs y z (encoded rest) (omega arith) (omega arith)) in
    let later = encoded_back rest (λ k low. h (suc (suc (suc k))) (omega arith)) in
    ap packed four ∙ ap (three_bytes w x y z) later
    ∙ ap (λ t. t ∷ (x % 16 * 16 + y / 4) ∷ (y % 4 * 64 + z) ∷ rest) (first_byte a (b / 16) (omega arith))
    ∙ ap (λ t. a ∷ t ∷ (y % 4 * 64 + z) ∷ rest) (second_byte a b (c / 64) small' (omega arith))
    ∙ ap (λ t. a ∷ b ∷ t ∷ rest) (third_byte b c small'')

letters_wrapped : (left : ℕ) (bs : List ℕ) → letters (wrapped left bs) ≡ letters bs
letters_wrapped left [] = refl
letters_wrapped zero (b ∷ bs) = ap (λ t. cond (eqb b 61) [] (with_letter (letter b) t)) (letters_wrapped 75 bs)
letters_wrapped (suc left) (b ∷ bs) = ap (λ t. cond (eqb b 61) [] (with_letter (letter b) t)) (letters_wrapped left bs)

pub lines_back : (bytes : List ℕ) → AreBytes bytes → base64 (base64_text bytes) ≡ bytes
lines_back bytes h = ap packed (letters_wrapped 76 (encoded bytes)) ∙ encoded_back bytes h

-- The decimal texts of numbers, as `parse` reads them.
use Rattle.std.proofs.Common.{◌≡◌, ◌≢◌, ℕ, zero, suc, ◌<◌, ◌^◌, List, ◌∷◌, length, get_or, Ok, Err, refl, sym, ap, ◌∙◌, subst, arith}
use Rattle.std.specs.Fmt.{decimal}
use Rattle.std.specs.declared.num.ParseIntError.{ParseIntError}
use Rattle.std.specs.Int.{IsInRange}
use Rattle.std.specs.Str.{IsUtf8}
use Rattle.std.specs.Str.Parse.{AllDigits, ParsesUnsigned, digits_value}
use Rattle.std.proofs.lemmas.Fmt.{decimal-digits_value, decimal_injective, decimal_nonempty, decimal_digit, digits_decimal, first_decimal, parse-decimal, IsAscii-decimal}
use Rattle.std.proofs.lemmas.Str.{IsUtf8-from_ascii}
use Rattle.std.proofs.lemmas.Str.Parse.{IsNumeralModel, numerals_by_value, tells_digits, parse_plain, not_in_digits}
use Rattle.jm_base.specs.Ids.{IsDecimal, IsId, IsNumberText, IsState, id_text, kind_letter, state_text}
use Rattle.jm_base.specs.declared.identifiers.Kind.{Kind}
use Rattle.jm_base.specs.declared.identifiers.Kind.TheVariants.{Mailbox as OfMailbox, Email as OfEmail, Thread as OfThread}
use Rattle.jm_base.specs.declared.identifiers.Id.{Id}

own : IsNumeralModel (AllDigits 10) (digits_value 10)
own = numerals_by_value (AllDigits 10) tells_digits

-- what was read, with no plus and no leading zero, is the decimal of the number
pub read_back : (text : List ℕ) (m : ℕ) → ParsesUnsigned {E = ParseIntError} 64 10 text (Ok m) → get_or text 0 0 ≢ 43 → (get_or text 0 0 ≡ 48 → length text ≡ 1) → IsDecimal text m
read_back text m h plus zeros =
    let k = parse_plain own {E = ParseIntError} 64 text (Ok m) h plus in
    (let small = k.0.2 in let same = k.1 in omega (arith, small, same), sym (ap decimal k.1 ∙ decimal-digits_value own text k.0.0 k.0.1 zeros k.0.2))

-- a decimal is read as its number
pub reads_decimal : (text : List ℕ) (m n : ℕ) → ParsesUnsigned {E = ParseIntError} 64 10 text (Ok m) → n < 2 ^ 64 → text ≡ decimal n → m ≡ n
reads_decimal text m n h lt e =
    let same = parse-decimal {E = ParseIntError} 64 n text (Ok m) (omega arith) (omega arith) e h in cc

pub never_fails : (text : List ℕ) (f : ParseIntError) (n : ℕ) → ParsesUnsigned 64 10 text (Err f) → n < 2 ^ 64 → text ≡ decimal n → ⊥
never_fails text f n h lt e =
    let same : Err f ≡ Ok n = parse-decimal {E = ParseIntError} 64 n text (Err f) (omega arith) (omega arith) e h in cc

-- how a decimal begins
pub record BeginsWell (text : List ℕ) : Type 0 where
  pub some : 0 < length text
  pub no_plus : get_or text 0 0 ≢ 43
  pub no_zero : get_or text 0 0 ≡ 48 → length text ≡ 1

not_a_digit : IsInRange 48 57 43 → ⊥
not_a_digit r = omega arith

zero_alone : (n : ℕ) → n < 2 ^ 64 → get_or (decimal n) 0 0 ≡ 48 → length (decimal n) ≡ 1
zero_alone zero lt e = ap length (decimal_digit 0 (omega arith))
zero_alone (suc n) lt e = let first = first_decimal (suc n) (omega arith) (omega arith) in absurd (omega arith)

begins : (n : ℕ) → n < 2 ^ 64 → BeginsWell (decimal n)
begins n lt = record {
  some = decimal_nonempty n (omega arith);
  no_plus = not_in_digits own (decimal n) 43 (digits_decimal own n (omega arith)) not_a_digit 0 (decimal_nonempty n (omega arith));
  no_zero = zero_alone n lt;
}

pub decimal_begins : (text : List ℕ) (n : ℕ) → IsDecimal text n → BeginsWell text
decimal_begins text n is = subst BeginsWell (sym is.1) (begins n is.0)

pub decimal_utf8 : (text : List ℕ) (n : ℕ) → IsDecimal text n → IsUtf8 text
decimal_utf8 text n is = let lt = is.0 in subst IsUtf8 (sym is.1) (IsUtf8-from_ascii (decimal n) (IsAscii-decimal n (omega arith)))

-- no identifier has the number 0
pub zero_is_no_id : (text digits : List ℕ) (letter number : ℕ) (id : Id) → text ≡ letter ∷ digits → IsNumberText digits number → number ≡ 0 → IsId id → text ≡ id_text id → ⊥
zero_is_no_id text digits letter number id split is none real e =
    let tail : digits ≡ decimal id.number = cc in
    let below = real.below in
    let some = real.from_one in
    let lt = is.0 in
    let same : id.number ≡ number = decimal_injective id.number number (omega arith) (omega arith) (sym tail ∙ is.1) in
    omega arith

-- ---- texts tell identifiers and states apart

letters_tell : (a b : Kind) → kind_letter a ≡ kind_letter b → a ≡ b
letters_tell OfMailbox OfMailbox same = refl
letters_tell OfMailbox OfEmail same = absurd (omega (arith, same))
letters_tell OfMailbox OfThread same = absurd (omega (arith, same))
letters_tell OfEmail OfMailbox same = absurd (omega (arith, same))
letters_tell OfEmail OfEmail same = refl
letters_tell OfEmail OfThread same = absurd (omega (arith, same))
letters_tell OfThread OfMailbox same = absurd (omega (arith, same))
letters_tell OfThread OfEmail same = absurd (omega (arith, same))
letters_tell OfThread OfThread same = refl

first_of : (a b : ℕ) (xs ys : List ℕ) → a ∷ xs ≡ b ∷ ys → a ≡ b
first_of a b xs ys same = cc

rest_of : (a b : ℕ) (xs ys : List ℕ) → a ∷ xs ≡ b ∷ ys → xs ≡ ys
rest_of a b xs ys same = cc

pub texts_tell_states : (a b : ℕ) → IsState a → IsState b → state_text a ≡ state_text b → a ≡ b
texts_tell_states a b real other same = decimal_injective a b (omega (arith, real)) (omega (arith, other)) same

pub texts_tell_ids : (a b : Id) → IsId a → IsId b → id_text a ≡ id_text b → a ≡ b
texts_tell_ids a b real other same =
    let kinds : a.kind ≡ b.kind = letters_tell a.kind b.kind (first_of _ _ _ _ same) in
    let numbers : a.number ≡ b.number = texts_tell_states a.number b.number real.below other.below (rest_of _ _ _ _ same) in
    (λ i. record { kind = kinds i; number = numbers i })

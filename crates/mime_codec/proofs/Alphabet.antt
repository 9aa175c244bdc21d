-- The table of letters gives what the alphabet does.
use Rattle.std.proofs.Common.{◌≡◌, ◌≢◌, ℕ, ◌+◌, ◌<◌, ◌≤◌, get_or, map, Option, None, Some, unwrap_or, refl, sym, ap, ◌∙◌, arith}
use Rattle.std.proofs.Common.{Bool, true, false, cond, leb, eqb, ◌&&◌, ◌-◌, IfSome, lit<}
use Rattle.std.proofs.lemmas.Bool.{leb-true, true≢false}
use Rattle.mime_codec.specs.Quoted.{is_between}
use Rattle.mime_codec.specs.Base64.{letter}
use Rattle.mime_codec.proofs.Tables.{counted, entry_of}
use Rattle.mime_codec.specs.declared.base64.TheConstants.{LETTERS}

abbrev bits_of : ℕ → ℕ
bits_of b = unwrap_or (letter b) 64

table_is : LETTERS ≡ map bits_of (counted 0 256)
table_is = refl

pub letter_at : (b : ℕ) → b < 256 → get_or LETTERS b 0 ≡ bits_of b
letter_at b h = entry_of bits_of 0 LETTERS table_is b h

-- each letter is below 64
and_both : (p q : Bool) → (p && q) ≡ true → (p ≡ true) × (q ≡ true)
and_both true q h = (refl, h)
and_both false q h = absurd (true≢false (sym h))

between : (low high b : ℕ) → is_between low high b ≡ true → (low ≤ b) × (b ≤ high)
between low high b h = let both = and_both (leb low b) (leb b high) h in (leb-true low b both.0, leb-true b high both.1)

abbrev signs : ℕ → Option ℕ
signs b = cond (eqb b 43) (Some 62) (cond (eqb b 47) (Some 63) None)

abbrev digits : ℕ → Option ℕ
digits b = cond (is_between 48 57 b) (Some (b + 4)) (signs b)

abbrev lower_case : ℕ → Option ℕ
lower_case b = cond (is_between 97 122 b) (Some (b - 71)) (digits b)

abbrev IsSmall : Option ℕ → Type 0
IsSmall o = IfSome o (λ v. v < 64)

signs_small : (b : ℕ) → IsSmall (signs b)
signs_small b = elim (eqb b 43) as (λ t. IsSmall (cond t (Some 62) (cond (eqb b 47) (Some 63) None))) [
  | true ↦ lit< tt
  | false ↦ elim (eqb b 47) as (λ t. IsSmall (cond t (Some 63) None)) [ true ↦ lit< tt | false ↦ tt ]
]

digits_small : (b : ℕ) → IsSmall (digits b)
digits_small b = elim (is_between 48 57 b) as (λ t. is_between 48 57 b ≡ t → IsSmall (cond t (Some (b + 4)) (signs b))) [
  | true ↦ λ h. omega (arith, between 48 57 b h)
  | false ↦ λ h. signs_small b
] refl

lower_small : (b : ℕ) → IsSmall (lower_case b)
lower_small b = elim (is_between 97 122 b) as (λ t. is_between 97 122 b ≡ t → IsSmall (cond t (Some (b - 71)) (digits b))) [
  | true ↦ λ h. omega (arith, between 97 122 b h)
  | false ↦ λ h. digits_small b
] refl

letter_small : (b : ℕ) → IsSmall (letter b)
letter_small b = elim (is_between 65 90 b) as (λ t. is_between 65 90 b ≡ t → IsSmall (cond t (Some (b - 65)) (lower_case b))) [
  | true ↦ λ h. omega (arith, between 65 90 b h)
  | false ↦ λ h. lower_small b
] refl

by_bits : (o : Option ℕ) (r : ℕ) → IsSmall o → r ≡ unwrap_or o 64 → (r ≡ 64 → o ≡ None) × (r ≢ 64 → o ≡ Some r) × (r ≤ 64)
by_bits None r s e = (λ _. refl, λ n. absurd (n e), omega (arith, e))
by_bits (Some v) r s e = (λ h. absurd (omega (arith, s, e, h)), λ _. ap Some (sym e), omega (arith, e, s))

pub by_table : (b r : ℕ) → b < 256 → r ≡ get_or LETTERS b 0 → (r ≡ 64 → letter b ≡ None) × (r ≢ 64 → letter b ≡ Some r) × (r ≤ 64)
by_table b r h e = by_bits (letter b) r (letter_small b) (e ∙ letter_at b h)

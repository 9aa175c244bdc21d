-- The table of hexadecimal digits gives what their definition does.
use Rattle.std.proofs.Common.{◌≡◌, ◌≢◌, ℕ, ◌<◌, ◌≤◌, Bool, true, false, cond, eqb, leb, not, get_or, map, refl, sym, ap, ◌∙◌, arith}
use Rattle.std.proofs.lemmas.Bool.{leb-true, ne_eqb}
use Rattle.mime_codec.specs.Quoted.{is_hex, hex_value}
use Rattle.mime_codec.specs.declared.quoted.TheConstants.{DIGITS}
use Rattle.mime_codec.proofs.Tables.{counted, entry_of, for_bytes}

abbrev digit_of : ℕ → ℕ
digit_of b = cond (is_hex b) (hex_value b) 16

abbrev is_value : ℕ → Bool
is_value b = not (eqb (digit_of b) 16)

abbrev is_small : ℕ → Bool
is_small b = leb (digit_of b) 16

abbrev yes : ℕ → Bool
yes b = true

table_is : DIGITS ≡ map digit_of (counted 0 256)
table_is = refl

values_are : map is_hex (counted 0 256) ≡ map is_value (counted 0 256)
values_are = refl

all_small : map is_small (counted 0 256) ≡ map yes (counted 0 256)
all_small = refl

pub by_digits : (b r : ℕ) → b < 256 → r ≡ get_or DIGITS b 0 → (r ≡ 16 → is_hex b ≡ false) × (r ≢ 16 → is_hex b ≡ true) × (r ≢ 16 → r ≡ hex_value b) × (r ≤ 16)
by_digits b r h e =
    let is : r ≡ digit_of b = e ∙ entry_of digit_of 0 DIGITS table_is b h in
    let told : is_hex b ≡ not (eqb r 16) = for_bytes is_hex is_value false values_are b h ∙ ap (λ n. not (eqb n 16)) (sym is) in
    let hex : r ≢ 16 → is_hex b ≡ true = λ n. told ∙ ap not (ne_eqb r 16 n) in (
      λ n. told ∙ ap (λ m. not (eqb m 16)) n,
      hex,
      λ n. is ∙ ap (λ v. cond v (hex_value b) 16) (hex n),
      omega (arith, is, leb-true (digit_of b) 16 (for_bytes is_small yes false all_small b h)),
    )

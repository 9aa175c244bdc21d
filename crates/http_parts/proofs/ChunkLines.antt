-- The line of a chunk: where it ends, and the size that it says.
use Rattle.std.proofs.Common.{◌≡◌, ◌<◌, ◌≤◌, ◌+◌, ◌-◌, ◌*◌, ◌^◌, ℕ, suc, Bool, true, false, not, cond, eqb, List, [], ◌∷◌, length, take, drop, Option, None, Some, get_or, subst, refl, sym, ap, ◌∙◌, arith, pow-add}
use Rattle.std.proofs.Math.Nat.{pow-le-pow_right}
use Rattle.std.proofs.lemmas.Bool.{lt-ltb, le-ltb, le-leb, lt-leb}
use Rattle.std.proofs.lemmas.List.Sums.{prefix_len_is}
use Rattle.std.specs.List.{prefix_len}
use Rattle.std.specs.Option.{MatchOption}
use Rattle.std.specs.Char.{is_ascii_hexdigit, digit_value}
use Rattle.std.specs.Str.Parse.{digits_value, digits_value_after}
use Rattle.memchr.specs.Find.{IsFirstByte, is_byte}
use Rattle.mime_lines.proofs.LineFacts.{not_true}
use Rattle.http_parts.specs.ChunkParts.{AreHexDigits}
use Rattle.mime_lines.specs.Lines.{text}
use Rattle.http_parts.specs.Chunks.{LineInvalid, LineUnfinished, chunk_line, chunk_line_by, chunk_size, line_feed_at}
use Rattle.http_parts.specs.declared.limits.TheConstants.{MAX_CHUNK_LINE_BYTES}

digit_power : (value digit n : ℕ) → suc n ≤ 16 → value < 16 ^ (16 - suc n) → digit < 16 → value * 16 + digit < 16 ^ (16 - n)
digit_power value digit n few below small =
    let next : 16 - n ≡ 16 - suc n + 1 = omega arith in
    rw next (omega (arith, pow-add 16 (16 - suc n) 1, below, small))

power_top : (n : ℕ) → 16 ^ (16 - n) ≤ 2 ^ 64
power_top n = pow-le-pow_right {n = 16} (omega arith) {j = 16} (omega arith)

power_some : (n : ℕ) → 0 < 16 ^ n
power_some n = pow-le-pow_right {n = 16} (omega arith) {i = 0} {j = n} (omega arith)

pub digit_init : (n : ℕ) → 0 < 16 ^ (16 - n)
digit_init n = power_some (16 - n)

-- one more digit stays below the next power
pub digit_fits : (value digit : ℕ) (rest : List ℕ) (b : ℕ) (more : List ℕ) → rest ≡ b ∷ more → length rest ≤ 16 → value < 16 ^ (16 - length rest) → digit < 16
    → value * 16 + digit < 16 ^ (16 - length more)
digit_fits value digit rest b more is few below small =
    let len : length rest ≡ suc (length more) = ap length is in
    digit_power value digit (length more) (omega (arith, len, few)) (rw len at below) small

pub digit_top : (value digit : ℕ) (rest : List ℕ) (b : ℕ) (more : List ℕ) → rest ≡ b ∷ more → length rest ≤ 16 → value < 16 ^ (16 - length rest) → digit < 16
    → value * 16 + digit < 2 ^ 64
digit_top value digit rest b more is few below small =
    omega (arith, digit_fits value digit rest b more is few below small, power_top (length more))

pub digit_next : (digits rest more : List ℕ) (b value digit : ℕ) → rest ≡ b ∷ more → length rest ≤ 16 → AreHexDigits rest → value < 16 ^ (16 - length rest)
    → digits_value_after 16 value rest ≡ digits_value 16 digits → (is_ascii_hexdigit b ≡ true → digit ≡ digit_value b) → digit < 16
    → (length more ≤ 16) × AreHexDigits more × (value * 16 + digit < 16 ^ (16 - length more)) × (digits_value_after 16 (value * 16 + digit) more ≡ digits_value 16 digits)
digit_next digits rest more b value digit is few hex below same read small =
    let hex' : AreHexDigits (b ∷ more) = subst AreHexDigits is hex in
    let same' : digits_value_after 16 value (b ∷ more) ≡ digits_value 16 digits = ap (digits_value_after 16 value) (sym is) ∙ same in
    let len : length rest ≡ suc (length more) = ap length is in (
      omega (arith, len, few),
      hex'.1,
      digit_fits value digit rest b more is few below small,
      ap (λ (d : ℕ). digits_value_after 16 (value * 16 + d) more) (read hex'.0) ∙ same',
    )

-- the digits at the beginning are digits
hex_front_by : (b : ℕ) (bytes : List ℕ) (v : Bool) → is_ascii_hexdigit b ≡ v → AreHexDigits (take (prefix_len is_ascii_hexdigit bytes) bytes)
    → AreHexDigits (take (cond v (1 + prefix_len is_ascii_hexdigit bytes) 0) (b ∷ bytes))
hex_front_by b bytes true h rest =
    let e : 1 + prefix_len is_ascii_hexdigit bytes ≡ suc (prefix_len is_ascii_hexdigit bytes) = omega arith in
    subst (λ (n : ℕ). AreHexDigits (take n (b ∷ bytes))) (sym e) (h, rest)
hex_front_by b bytes false h rest = tt

pub hex_front : (bytes : List ℕ) → AreHexDigits (take (prefix_len is_ascii_hexdigit bytes) bytes)
hex_front [] = tt
hex_front (b ∷ bytes) = hex_front_by b bytes (is_ascii_hexdigit b) refl (hex_front bytes)

-- the first LF is at this place
pub feed_at : (bytes : List ℕ) (i : ℕ) → i ≤ length bytes → ((k : ℕ) → k < i → eqb (get_or bytes k 0) 10 ≡ false) → (i < length bytes → eqb (get_or bytes i 0) 10 ≡ true)
    → line_feed_at bytes ≡ i
feed_at bytes i inside before here =
    prefix_len_is (λ b. not (eqb b 10)) bytes i 0 inside (λ k low. ap not (before k low)) (λ low. ap not (here low))

pub feed_found : (bytes : List ℕ) (o : Option ℕ) → IsFirstByte (is_byte 10) bytes o → MatchOption o (line_feed_at bytes ≡ length bytes) (λ i. (line_feed_at bytes ≡ i) × (i < length bytes))
feed_found bytes None none =
    feed_at bytes (length bytes) (omega arith) (λ k low. not_true _ (none k (omega arith) low)) (λ low. absurd (omega arith))
feed_found bytes (Some i) some =
    (feed_at bytes i (omega (arith, some.0.high)) (λ k low. not_true _ (some.0.before k (omega arith) low)) (λ low. some.1), some.0.high)

pub line_there : (bytes : List ℕ) (i : ℕ) (o : Option ℕ) → line_feed_at bytes ≡ i → i < length bytes → i < MAX_CHUNK_LINE_BYTES → chunk_size (text (take (i + 1) bytes)) ≡ o
    → chunk_line bytes ≡ chunk_line_by o (drop (i + 1) bytes)
line_there bytes i o at inside most said =
    rw (at, lt-ltb i (length bytes) inside, le-leb (i + 1) MAX_CHUNK_LINE_BYTES (omega arith), said) refl

pub line_long : (bytes : List ℕ) (i : ℕ) → line_feed_at bytes ≡ i → i < length bytes → MAX_CHUNK_LINE_BYTES ≤ i → chunk_line bytes ≡ LineInvalid
line_long bytes i at inside most =
    rw (at, lt-ltb i (length bytes) inside, lt-leb (i + 1) MAX_CHUNK_LINE_BYTES (omega arith), le-leb MAX_CHUNK_LINE_BYTES (length bytes) (omega arith)) refl

pub line_none : (bytes : List ℕ) → line_feed_at bytes ≡ length bytes → MAX_CHUNK_LINE_BYTES ≤ length bytes → chunk_line bytes ≡ LineInvalid
line_none bytes at most =
    rw (at, le-ltb (length bytes) (length bytes) (omega arith), le-leb MAX_CHUNK_LINE_BYTES (length bytes) most) refl

pub line_begun : (bytes : List ℕ) → line_feed_at bytes ≡ length bytes → length bytes < MAX_CHUNK_LINE_BYTES → chunk_line bytes ≡ LineUnfinished
line_begun bytes at few =
    rw (at, le-ltb (length bytes) (length bytes) (omega arith), lt-leb MAX_CHUNK_LINE_BYTES (length bytes) few) refl

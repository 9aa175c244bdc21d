-- What the fields say of the length of a body.
use Rattle.std.proofs.Common.{◌≡◌, ◌<◌, ◌+◌, ◌*◌, ℕ, Bool, true, false, ◌&&◌, ◌||◌, ltb, min, List, [], ◌∷◌, length, refl, sym, ap, ◌∙◌, arith}
use Rattle.std.proofs.lemmas.Bool.{lt-ltb, ltb-false}
use Rattle.std.specs.List.{list_all}
use Rattle.std.specs.Int.{is_in_range}
use Rattle.std.specs.Char.{is_ascii_digit, is_ascii_hexdigit, digit_value}
use Rattle.std.specs.Str.Parse.{digits_value, digits_value_after}
use Rattle.http_wire.specs.Framings.{InvalidLength, framing_by, is_number}
use Rattle.http_wire.specs.Lengths.{greatest_size}

-- several Transfer-Encoding fields
pub several_codings : (sizes : List (List ℕ)) (c : List ℕ) (cs : List (List ℕ)) → ltb 0 (length cs) ≡ true → framing_by sizes (c ∷ cs) ≡ InvalidLength
several_codings sizes c [] h = absurd (cc h)
several_codings [] c (d ∷ ds) h = refl
several_codings (s ∷ []) c (d ∷ ds) h = refl
several_codings (s ∷ t ∷ ss) c (d ∷ ds) h = refl

-- both
pub both_said : (sizes : List (List ℕ)) (c : List ℕ) (cs : List (List ℕ)) → ltb 0 (length sizes) ≡ true → framing_by sizes (c ∷ cs) ≡ InvalidLength
both_said [] c cs h = absurd (cc h)
both_said (s ∷ []) c cs h = refl
both_said (s ∷ t ∷ ss) c cs h = refl

none_said : (cs : List (List ℕ)) → ltb 0 (length cs) ≡ false → cs ≡ []
none_said [] h = refl
none_said (c ∷ cs) h = absurd (omega (arith, ltb-false 0 (length (c ∷ cs)) h))

-- one Transfer-Encoding field alone
pub one_coding : (sizes : List (List ℕ)) (c : List ℕ) (cs : List (List ℕ)) (word : List ℕ) (v : Bool) → ltb 0 (length sizes) ≡ false → ltb 0 (length cs) ≡ false
    → framing_by sizes (c ∷ cs) ≡ framing_by [] (c ∷ [])
one_coding sizes c cs word v h k =
    ap (λ (z : List (List ℕ)). framing_by z (c ∷ cs)) (none_said sizes h) ∙ ap (λ (z : List (List ℕ)). framing_by [] (c ∷ z)) (none_said cs k)

-- several Content-Length fields
pub several_sizes : (s : List ℕ) (ss : List (List ℕ)) → ltb 0 (length ss) ≡ true → framing_by (s ∷ ss) [] ≡ InvalidLength
several_sizes s [] h = absurd (cc h)
several_sizes s (t ∷ ss) h = refl

pub one_size : (s : List ℕ) (ss : List (List ℕ)) → ltb 0 (length ss) ≡ false → framing_by (s ∷ ss) [] ≡ framing_by (s ∷ []) []
one_size s ss h = ap (λ (z : List (List ℕ)). framing_by (s ∷ z) []) (none_said ss h)

-- one more digit, within 64 bits
pub next_digit : (v d : ℕ) → min (min (min v greatest_size * 10) greatest_size + d) greatest_size ≡ min (v * 10 + d) greatest_size
next_digit v d = grind arith

hex_by : (x y z : Bool) → x ≡ true → ((x || y) || z) ≡ true
hex_by true y z h = refl
hex_by false y z h = absurd (cc h)

digit_is_hex : (b : ℕ) → is_ascii_digit b ≡ true → is_ascii_hexdigit b ≡ true
digit_is_hex b h = hex_by (is_in_range 48 57 b) (is_in_range 65 70 b) (is_in_range 97 102 b) h

all_next : (x y : Bool) → x ≡ true → (x && y) ≡ y
all_next true y h = refl
all_next false y h = absurd (cc h)

all_not : (x y : Bool) → x ≡ false → (x && y) ≡ false
all_not true y h = absurd (cc h)
all_not false y h = refl

-- what the digits up to here say
abbrev pub Says : (text rest : List ℕ) (value : ℕ) → Type 0
Says text rest value = (v : ℕ) × (value ≡ min v greatest_size) × (digits_value_after 10 v rest ≡ digits_value 10 text)

pub says_next : (text rest more : List ℕ) (b value times sum d : ℕ) → rest ≡ b ∷ more → is_ascii_digit b ≡ true → Says text rest value → times ≡ min (value * 10) greatest_size
    → sum ≡ min (times + d) greatest_size → (is_ascii_hexdigit b ≡ true → d ≡ digit_value b) → Says text more sum
says_next text rest more b value times sum d is digit s mul add read =
    let v = s.0 in
    let same : d ≡ digit_value b = read (digit_is_hex b digit) in
    let value_is : sum ≡ min (v * 10 + d) greatest_size =
    add ∙ ap (λ (k : ℕ). min (k + d) greatest_size) mul ∙ ap (λ (k : ℕ). min (min (k * 10) greatest_size + d) greatest_size) s.1 ∙ next_digit v d in (
      v * 10 + d,
      value_is,
      ap (λ (k : ℕ). digits_value_after 10 (v * 10 + k) more) same ∙ ap (digits_value_after 10 v) (sym is) ∙ s.2,
    )

pub digits_next : (text rest more : List ℕ) (b : ℕ) → rest ≡ b ∷ more → is_ascii_digit b ≡ true → list_all is_ascii_digit rest ≡ list_all is_ascii_digit text
    → list_all is_ascii_digit more ≡ list_all is_ascii_digit text
digits_next text rest more b is digit all =
    sym (all_next (is_ascii_digit b) (list_all is_ascii_digit more) digit) ∙ ap (list_all is_ascii_digit) (sym is) ∙ all

pub no_number : (text rest more : List ℕ) (b : ℕ) → rest ≡ b ∷ more → is_ascii_digit b ≡ false → list_all is_ascii_digit rest ≡ list_all is_ascii_digit text → is_number text ≡ false
no_number text rest more b is digit all =
    let none : list_all is_ascii_digit text ≡ false = sym all ∙ ap (list_all is_ascii_digit) is ∙ all_not (is_ascii_digit b) (list_all is_ascii_digit more) digit in
    ap (λ (t : Bool). ltb 0 (length text) && t) none ∙ and_no (ltb 0 (length text))
  where
    and_no : (x : Bool) → (x && false) ≡ false
    and_no true = refl
    and_no false = refl

pub a_number : (text rest : List ℕ) (value : ℕ) → length rest ≡ 0 → 0 < length text → list_all is_ascii_digit rest ≡ list_all is_ascii_digit text → Says text rest value
    → (is_number text ≡ true) × (value ≡ min (digits_value 10 text) greatest_size)
a_number text [] value none some all s = (
  ap (λ (t : Bool). ltb 0 (length text) && t) (sym all) ∙ ap (λ (t : Bool). t && true) (lt-ltb 0 (length text) some),
  s.1 ∙ ap (λ (k : ℕ). min k greatest_size) s.2,
)
a_number text (b ∷ rest) value none some all s = absurd (omega (arith, none))

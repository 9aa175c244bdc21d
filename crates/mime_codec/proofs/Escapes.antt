-- What escapes take of a text, where they may begin, and how many a line has.
use Rattle.std.proofs.Common.{◌≡◌, ℕ, zero, suc, ◌+◌, ◌*◌, ◌<◌, ◌≤◌, Bool, true, false, eqb, not, cond, ◌&&◌, List, [], ◌∷◌, ◌++◌, length, get_or, take, drop, refl, ap, sym, ◌∙◌, append-nil, arith}
use lib.Bits.{bit_and}
use Rattle.std.proofs.lemmas.Bool.{eqb-true, false≢true}
use Rattle.mime_codec.specs.Quoted.{is_hex, hex_value, is_escape, unescaped}
use Rattle.mime_codec.specs.Escapes.{starts_escape, escapes}

-- a digit is no equals sign, and an escape begins with one
digit_is_no_sign : (c : ℕ) → is_hex c ≡ true → (v : Bool) → eqb c 61 ≡ v → v ≡ false
digit_is_no_sign c h true e = absurd (false≢true (ap is_hex (sym (eqb-true c 61 e)) ∙ h))
digit_is_no_sign c h false e = refl

not_started : (c : ℕ) (xs : List ℕ) → eqb c 61 ≡ false → starts_escape (c ∷ xs) ≡ false
not_started c [] h = refl
not_started c (d ∷ []) h = refl
not_started c (d ∷ e ∷ es) h = rw h refl

not_counted : (c : ℕ) (xs : List ℕ) → eqb c 61 ≡ false → escapes (c ∷ xs) ≡ escapes xs
not_counted c xs h = omega (arith, ap (λ v. cond {A = ℕ} v 1 0) (not_started c xs h))

and_parts : (p q r : Bool) → (p && (q && r)) ≡ true → (q ≡ true) × (r ≡ true)
and_parts true true true h = (refl, refl)
and_parts true true false h = absurd (false≢true h)
and_parts true false r h = absurd (false≢true h)
and_parts false q r h = absurd (false≢true h)

-- each escape is one byte of three
pub size_of_unescaped : (text : List ℕ) → length (unescaped text) + 2 * escapes text ≡ length text
size_of_unescaped [] = refl
size_of_unescaped (b ∷ []) = refl
size_of_unescaped (b ∷ c ∷ []) = refl
size_of_unescaped (b ∷ c ∷ d ∷ bs) =
    elim (is_escape b c d)
    as (λ v. is_escape b c d ≡ v
    → length (cond v ((16 * hex_value c + hex_value d) ∷ unescaped bs) (b ∷ unescaped (c ∷ d ∷ bs))) + 2 * (cond v 1 0 + escapes (c ∷ d ∷ bs)) ≡ suc (suc (suc (length bs)))) [
      | true ↦ λ h.
          let digits = and_parts (eqb b 61) (is_hex c) (is_hex d) h in
          let none : escapes (c ∷ d ∷ bs) ≡ escapes bs =
          not_counted c (d ∷ bs) (digit_is_no_sign c digits.0 (eqb c 61) refl) ∙ not_counted d bs (digit_is_no_sign d digits.1 (eqb d 61) refl) in
          omega (arith, none, size_of_unescaped bs)
      | false ↦ λ h. omega (arith, size_of_unescaped (c ∷ d ∷ bs))
    ] refl

-- a text in two parts, of which the second begins with the last two bytes of the first
same_start : (b n : ℕ) (bs : List ℕ) → starts_escape (b ∷ take (suc (suc n)) bs) ≡ starts_escape (b ∷ bs)
same_start b n [] = refl
same_start b n (c ∷ []) = refl
same_start b n (c ∷ d ∷ ds) = refl

pub escapes_split : (n : ℕ) (xs : List ℕ) → escapes xs ≡ escapes (take (suc (suc n)) xs) + escapes (drop n xs)
escapes_split zero [] = refl
escapes_split zero (b ∷ []) = refl
escapes_split zero (b ∷ c ∷ cs) = omega arith
escapes_split (suc n) [] = refl
escapes_split (suc n) (b ∷ bs) =
    omega (arith, ap (λ v. cond {A = ℕ} v 1 0) (same_start b n bs), escapes_split n bs)

-- none begins with one of the last two bytes
pub escapes_last : (text : List ℕ) (i : ℕ) → length text ≤ i + 2 → escapes (drop i text) ≡ 0
escapes_last [] zero h = refl
escapes_last [] (suc i) h = refl
escapes_last (b ∷ []) zero h = refl
escapes_last (b ∷ c ∷ []) zero h = refl
escapes_last (b ∷ c ∷ d ∷ bs) zero h = absurd (omega arith)
escapes_last (b ∷ bs) (suc i) h = escapes_last bs i (omega arith)

-- a byte that is no digit is in no escape that begins before it
last_digit : (p q : Bool) → q ≡ false → (p && q) ≡ false
last_digit true q h = h
last_digit false q h = refl

second_ends : (b c q : ℕ) → is_hex q ≡ false → is_escape b c q ≡ false
second_ends b c q h = last_digit (eqb b 61) (is_hex c && is_hex q) (last_digit (is_hex c) (is_hex q) h)

first_ends : (b q d : ℕ) → is_hex q ≡ false → is_escape b q d ≡ false
first_ends b q d h = last_digit (eqb b 61) (is_hex q && is_hex d) (ap (λ v. v && is_hex d) h)

before_end : (b q : ℕ) (ys : List ℕ) → is_hex q ≡ false → starts_escape (b ∷ q ∷ ys) ≡ false
before_end b q [] h = refl
before_end b q (y ∷ ys) h = first_ends b q y h

pub escapes_apart : (xs ys : List ℕ) (q : ℕ) → is_hex q ≡ false → escapes (xs ++ (q ∷ ys)) ≡ escapes xs + escapes (q ∷ ys)
escapes_apart [] ys q h = omega arith
escapes_apart (b ∷ []) ys q h = omega (arith, ap (λ v. cond {A = ℕ} v 1 0) (before_end b q ys h))
escapes_apart (b ∷ c ∷ []) ys q h =
    omega (arith, ap (λ v. cond {A = ℕ} v 1 0) (second_ends b c q h), ap (λ v. cond {A = ℕ} v 1 0) (before_end c q ys h))
escapes_apart (b ∷ c ∷ d ∷ ds) ys q h = omega (arith, escapes_apart (c ∷ d ∷ ds) ys q h)

-- neither a digit nor an equals sign
abbrev pub is_quiet : ℕ → Bool
is_quiet b = not (is_hex b) && not (eqb b 61)

quiet_parts : (p q : Bool) → (not p && not q) ≡ true → (p ≡ false) × (q ≡ false)
quiet_parts false false h = (refl, refl)
quiet_parts false true h = absurd (false≢true h)
quiet_parts true q h = absurd (false≢true h)

pub past_quiet : (xs ys : List ℕ) (q : ℕ) → is_quiet q ≡ true → escapes (xs ++ (q ∷ ys)) ≡ escapes xs + escapes ys
past_quiet xs ys q h =
    let parts = quiet_parts (is_hex q) (eqb q 61) h in
    escapes_apart xs ys q parts.0 ∙ ap (λ n. escapes xs + n) (not_counted q ys parts.1)

all_quiet : (ys : List ℕ) → ((k : ℕ) → k < length ys → is_quiet (get_or ys k 0) ≡ true) → escapes ys ≡ 0
all_quiet [] h = refl
all_quiet (y ∷ ys) h = omega (arith, past_quiet [] ys y (h 0 (omega arith)), all_quiet ys (λ k low. h (suc k) (omega arith)))

pub quiet_end : (xs ys : List ℕ) → ((k : ℕ) → k < length ys → is_quiet (get_or ys k 0) ≡ true) → escapes (xs ++ ys) ≡ escapes xs
quiet_end xs [] h = ap escapes (append-nil xs)
quiet_end xs (y ∷ ys) h = omega (arith, past_quiet xs ys y (h 0 (omega arith)), all_quiet ys (λ k low. h (suc k) (omega arith)))

-- whether an escape is there, without a branch
by_cases : (p q r : Bool) → (bit_and (bit_and (cond p 1 0) (cond q 1 0)) (cond r 1 0) ≡ cond (p && (q && r)) 1 0) × (bit_and (bit_and (cond p 1 0) (cond q 1 0)) (cond r 1 0) ≤ 1)
by_cases true true true = (refl, omega arith)
by_cases true true false = (refl, omega arith)
by_cases true false true = (refl, omega arith)
by_cases true false false = (refl, omega arith)
by_cases false true true = (refl, omega arith)
by_cases false true false = (refl, omega arith)
by_cases false false true = (refl, omega arith)
by_cases false false false = (refl, omega arith)

pub all_three : (p q r : Bool) (x y z : ℕ) → x ≡ cond p 1 0 → y ≡ cond q 1 0 → z ≡ cond r 1 0
    → (bit_and (bit_and x y) z ≡ cond (p && (q && r)) 1 0) × (bit_and (bit_and x y) z ≤ 1)
all_three p q r x y z e f g =
    let same : bit_and (bit_and x y) z ≡ bit_and (bit_and (cond p 1 0) (cond q 1 0)) (cond r 1 0) = λ i. bit_and (bit_and (e i) (f i)) (g i) in
    (same ∙ (by_cases p q r).0, omega (arith, same, (by_cases p q r).1))

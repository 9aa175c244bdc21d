-- Numbers in decimal.
use Rattle.std.proofs.Common.{◌≡◌, ◌≢◌, ℕ, ◌≤◌, ◌<◌, ◌^◌, List, [], ◌∷◌, map, length, get_or, Bool, true, false, ◌&&◌, nat_le, bytes_eq, None, Some, refl, sym, ap, ap₂, ◌∙◌, arith, if◌then◌else◌}
use Rattle.std.proofs.lemmas.Bool.{le-leb, leb-true, lt-leb}
use Rattle.std.proofs.lemmas.Fmt.{digits_value-decimal}
use Rattle.std.proofs.lemmas.Slice.Eq.{bytes_eq-Decides}
use Rattle.std.proofs.lemmas.Str.Parse.{numerals_by_value, tells_digits}
use Rattle.std.specs.Fmt.{decimal}
use Rattle.std.specs.Str.Parse.{digits_value}
use Rattle.jmap_commands.specs.Arguments.{command_of, number_if, number_in, serving_or_syncing, showing}

-- the decimal of a number is the number, if that is not too great
pub number_read : (most n : ℕ) (word : List ℕ) → n < 2 ^ 53 → word ≡ decimal n → number_in most word ≡ (if nat_le 1 n && nat_le n most then Some n else None)
number_read most n word low is =
    let value : digits_value 10 word ≡ n = ap (digits_value 10) is ∙ digits_value-decimal (numerals_by_value _ tells_digits) n (omega arith) in
    let same : bytes_eq word (decimal n) ≡ true = (bytes_eq-Decides word (decimal n)).1 is in
    ap (number_if most word) value ∙ ap (λ (b : Bool). if b && (nat_le 1 n && nat_le n most) then Some n else None) same

read_as : (most n : ℕ) (word : List ℕ) (b : Bool) → n < 2 ^ 53 → word ≡ decimal n → (nat_le 1 n && nat_le n most) ≡ b → number_in most word ≡ (if b then Some n else None)
read_as most n word b low is e = number_read most n word low is ∙ ap (λ (t : Bool). if t then Some n else None) e

pub number_some : (most n : ℕ) (word : List ℕ) → n < 2 ^ 53 → word ≡ decimal n → 1 ≤ n → n ≤ most → Some n ≡ number_in most word
number_some most n word low is one few = sym (read_as most n word true low is (ap₂ (λ (s t : Bool). s && t) (le-leb 1 n one) (le-leb n most few)))

pub number_low : (most n : ℕ) (word : List ℕ) → n < 2 ^ 53 → word ≡ decimal n → n < 1 → None ≡ number_in most word
number_low most n word low is none = sym (read_as most n word false low is (ap (λ (s : Bool). s && nat_le n most) (lt-leb 1 n none)))

and_false : (b : Bool) → (b && false) ≡ false
and_false true = refl
and_false false = refl

pub number_high : (most n : ℕ) (word : List ℕ) → n < 2 ^ 53 → word ≡ decimal n → most < n → None ≡ number_in most word
number_high most n word low is many = sym (read_as most n word false low is (ap (λ (t : Bool). nat_le 1 n && t) (lt-leb n most many) ∙ and_false (nat_le 1 n)))

unread_if : (b c d : Bool) (n most : ℕ) → (b ≡ true → d ≡ true → ⊥) → (if b && (c && d) then Some n else None) ≡ None
unread_if true true true n most h = absurd (h refl refl)
unread_if true true false n most h = refl
unread_if true false d n most h = refl
unread_if false c d n most h = refl

-- what is no decimal of a number is none
pub number_unread : (most : ℕ) (word : List ℕ) → most ≤ 1000000 → ((n : ℕ) → n < 2 ^ 53 → word ≢ decimal n) → None ≡ number_in most word
number_unread most word small none =
    let n = digits_value 10 word in
    sym (unread_if (bytes_eq word (decimal n)) (nat_le 1 n) (nat_le n most) n most (λ e l. let low : n ≤ most = leb-true n most l in none n (omega arith) ((bytes_eq-Decides word (decimal n)).0 e)))

-- ---- the arguments of a command line by how many they are

pub two_words : {A : Type 0} (f : A → List ℕ) (xs : List A) → 1 < length xs → length xs < 3 → None ≡ command_of (map f xs)
two_words f [] low high = absurd (omega arith)
two_words f (x ∷ []) low high = absurd (omega arith)
two_words f (x ∷ y ∷ []) low high = refl
two_words f (x ∷ y ∷ z ∷ more) low high = absurd (omega arith)

pub three_words : {A : Type 0} (f : A → List ℕ) (xs : List A) (word : A) → 2 < length xs → length xs < 4 → word ≡ get_or xs 0 word → showing (f word) ≡ command_of (map f xs)
three_words f [] word low high w = absurd (omega arith)
three_words f (x ∷ []) word low high w = absurd (omega arith)
three_words f (x ∷ y ∷ []) word low high w = absurd (omega arith)
three_words f (x ∷ y ∷ z ∷ []) word low high w = ap (λ a. showing (f a)) w
three_words f (x ∷ y ∷ z ∷ u ∷ more) word low high w = absurd (omega arith)

pub four_words : {A : Type 0} (f : A → List ℕ) (xs : List A) → 3 < length xs → length xs < 5 → None ≡ command_of (map f xs)
four_words f [] low high = absurd (omega arith)
four_words f (x ∷ []) low high = absurd (omega arith)
four_words f (x ∷ y ∷ []) low high = absurd (omega arith)
four_words f (x ∷ y ∷ z ∷ []) low high = absurd (omega arith)
four_words f (x ∷ y ∷ z ∷ u ∷ []) low high = refl
four_words f (x ∷ y ∷ z ∷ u ∷ v ∷ more) low high = absurd (omega arith)

pub five_words : {A : Type 0} (f : A → List ℕ) (xs : List A) (word a b c d : A) → 4 < length xs → length xs < 6 → word ≡ get_or xs 0 word → a ≡ get_or xs 1 a → b ≡ get_or xs 2 b → c ≡ get_or xs 3 c → d ≡ get_or xs 4 d
    → serving_or_syncing (f word) (f a) (f b) (f c) (f d) ≡ command_of (map f xs)
five_words f [] word a b c d low high w p q r s = absurd (omega arith)
five_words f (x ∷ []) word a b c d low high w p q r s = absurd (omega arith)
five_words f (x ∷ x1 ∷ []) word a b c d low high w p q r s = absurd (omega arith)
five_words f (x ∷ x1 ∷ x2 ∷ []) word a b c d low high w p q r s = absurd (omega arith)
five_words f (x ∷ x1 ∷ x2 ∷ x3 ∷ []) word a b c d low high w p q r s = absurd (omega arith)
five_words f (x ∷ x1 ∷ x2 ∷ x3 ∷ x4 ∷ []) word a b c d low high w p q r s =
    ap (λ y. serving_or_syncing (f y) (f a) (f b) (f c) (f d)) w ∙ ap (λ y. serving_or_syncing (f x) (f y) (f b) (f c) (f d)) p ∙ ap (λ y. serving_or_syncing (f x) (f x1) (f y) (f c) (f d)) q ∙ ap (λ y. serving_or_syncing (f x) (f x1) (f x2) (f y) (f d)) r
    ∙ ap (λ y. serving_or_syncing (f x) (f x1) (f x2) (f x3) (f y)) s
five_words f (x ∷ x1 ∷ x2 ∷ x3 ∷ x4 ∷ x5 ∷ more) word a b c d low high w p q r s = absurd (omega arith)

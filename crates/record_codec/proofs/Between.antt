-- Numbers, and numbers between two others: the order of numbers is that of their bytes, the big end first.
use Rattle.std.proofs.Common.{◌≡◌, ℕ, zero, suc, ◌+◌, ◌-◌, ◌*◌, ◌^◌, ◌<◌, ◌≤◌, Bool, true, false, cond, not, ◌&&◌, ◌||◌, ltb, leb, List, [], ◌∷◌, ◌++◌, length, get_or, take, drop, Ok, Err, refl, sym, ap, ap₂, subst, ◌∙◌, ◌⊎◌, inl, inr, length-append, arith, lit<}
use Rattle.std.specs.Int.{w64, from_be_bytes, to_be_bytes}
use Rattle.std.proofs.lemmas.Bool.{true≢false, cases_lt, cases_order, ltb-false, lt-ltb, le-ltb, leb-true, le-leb, and_parts, or_parts, or_from}
use Rattle.std.proofs.lemmas.List.{take_at, take-append-drop, length-take, nil_from_length}
use Rattle.std.proofs.lemmas.Nat.{be_bytes_8, from_be_bytes-to_be_bytes_8}
use Rattle.std.proofs.Math.Nat.{mul-le-mul_left, mul_comm, mul-suc, pow-succ'}
use Rattle.record_codec.specs.Offsets.{AreBytes}
use Rattle.record_codec.specs.Encoding.{number}
use Rattle.record_codec.specs.Widths.{FitsIn64Bits}
use Rattle.record_codec.specs.NextBytes.{is_outside, left_in_word}
use Rattle.record_codec.specs.Reading.{Read}
use Rattle.record_codec.specs.Readers.{number_at, is_between, number_between}
use Rattle.record_codec.proofs.OneForm.{OneForm, number_one}
use Rattle.record_codec.proofs.Exact.{IsInput, bytes_left, bytes_both, Stops, stops_map, stops_later, stops_here, stops_short, Encoded, Exact, ok_is, ok_no_err}

-- ---- bytes by place
byte_small : (xs : List ℕ) → AreBytes xs → (i : ℕ) → get_or xs i 0 < 256
byte_small [] h i = lit< tt
byte_small (x ∷ xs) h zero = h.0
byte_small (x ∷ xs) h (suc i) = byte_small xs h.1 i

-- eight bytes are a number's
pub word_back : (w : List ℕ) → length w ≡ 8 → AreBytes w → (number (from_be_bytes w64 w) ≡ w) × FitsIn64Bits (from_be_bytes w64 w)
unfolding number
word_back w l h =
    let small = byte_small w h in
    (be_bytes_8 w (from_be_bytes w64 w) l small refl, omega (arith, small 0, small 1, small 2, small 3, small 4, small 5, small 6, small 7))

pub number_long : (n : ℕ) → length (number n) ≡ 8
unfolding number
number_long n = refl

pub number_bytes : (n : ℕ) → AreBytes (number n)
unfolding number
number_bytes n = (omega arith, (omega arith, (omega arith, (omega arith, (omega arith, (omega arith, (omega arith, (omega arith, tt))))))))

abbrev pub zeros : ℕ → List ℕ
zeros zero = []
zeros (suc n) = 0 ∷ zeros n

pub zeros_long : (n : ℕ) → length (zeros n) ≡ n
zeros_long zero = refl
zeros_long (suc n) = ap suc (zeros_long n)

pub zeros_bytes : (n : ℕ) → AreBytes (zeros n)
zeros_bytes zero = tt
zeros_bytes (suc n) = (lit< tt, zeros_bytes n)

-- ---- any number
abbrev failed : ℕ → Read ℕ
failed left = Err left

err_is : (d left : ℕ) → failed d ≡ failed left → d ≡ left
err_is d left e = cc

err_no_ok : (left : ℕ) (x : ℕ × List ℕ) → failed left ≡ Ok x → ⊥
err_no_ok left x e = cc

pub number_exact : Exact FitsIn64Bits number number_at
number_exact = record {
  found = λ xs h n rest e. elim (cases_lt (length xs) 8) [
    | inl lt ↦ absurd (err_no_ok 0 (n, rest) (rw (lt-ltb (length xs) 8 lt) at e))
    | inr ge ↦
        let got : ℕ × List ℕ = (from_be_bytes w64 (take 8 xs), drop 8 xs) in
        let is : got ≡ (n, rest) = ok_is got (n, rest) (rw (le-ltb (length xs) 8 ge) at e) in
        let b = word_back (take 8 xs) (omega (arith, length-take 8 xs)) (bytes_left (take 8 xs) (drop 8 xs) (subst AreBytes (sym (take-append-drop 8 xs)) h.bytes)) in
        subst (λ (r : ℕ × List ℕ). FitsIn64Bits r.0 × (xs ≡ number r.0 ++ r.1)) is (b.1, sym (take-append-drop 8 xs) ∙ ap (λ (w : List ℕ). w ++ drop 8 xs) (sym b.0))
  ];
  fault = λ xs h left e. elim (cases_lt (length xs) 8) [
    | inl lt ↦
        let is : 0 ≡ left = err_is 0 left (rw (lt-ltb (length xs) 8 lt) at e) in
        let more = zeros (7 - length xs) in
        let w = xs ++ 0 ∷ more in
        let long : length w ≡ 8 = omega (arith, length-append xs (0 ∷ more), zeros_long (7 - length xs)) in
        let b = word_back w long (bytes_both xs (0 ∷ more) h.bytes (lit< tt, zeros_bytes (7 - length xs))) in
        subst (λ (k : ℕ). Stops (Encoded FitsIn64Bits number) (Encoded FitsIn64Bits number) xs k) is (stops_short (Encoded FitsIn64Bits number) (Encoded FitsIn64Bits number) xs 0 more (from_be_bytes w64 w, b.1, sym b.0))
    | inr ge ↦ absurd (ok_no_err (from_be_bytes w64 (take 8 xs), drop 8 xs) left (rw (le-ltb (length xs) 8 ge) at e))
  ];
}

-- ---- the order of bytes
-- the one is not above the other, where both are as long

abbrev pub UpTo : List ℕ → List ℕ → Type 0
UpTo [] ys = Unit {0}
UpTo (x ∷ xs) [] = ⊥
UpTo (x ∷ xs) (y ∷ ys) = (x < y) ⊎ ((x ≡ y) × UpTo xs ys)

pub UpTo-refl : (xs : List ℕ) → UpTo xs xs
UpTo-refl [] = tt
UpTo-refl (x ∷ xs) = inr (refl, UpTo-refl xs)

abbrev worth : List ℕ → ℕ
worth [] = 0
worth (x ∷ xs) = x * 256 ^ length xs + worth xs

abbrev unit : List ℕ → ℕ
unit xs = 256 ^ length xs

apart : (x y u : ℕ) → x < y → x * u + u ≤ y * u
apart x y u lt =
    let one : u * suc x ≤ u * y = mul-le-mul_left u lt in
    rw (mul_comm x u, mul_comm y u, ← mul-suc u x) one

worth_less : (xs : List ℕ) → AreBytes xs → worth xs < unit xs
worth_less [] h = lit< tt
worth_less (x ∷ xs) h =
    let more = worth_less xs h.1 in
    let step = apart x 256 (unit xs) h.0 in
    let big : 256 ^ suc (length xs) ≡ 256 * unit xs = pow-succ' 256 (length xs) in
    rw big (omega (arith, more, step))

worth_up : (xs ys : List ℕ) → AreBytes xs → AreBytes ys → length xs ≡ length ys → UpTo xs ys → worth xs ≤ worth ys
worth_up [] ys h k l up = omega arith
worth_up (x ∷ xs) [] h k l up = absurd up
worth_up (x ∷ xs) (y ∷ ys) h k l (inl lt) =
    let same : length xs ≡ length ys = omega (arith, l) in
    let step = apart x y (unit xs) lt in
    let less = worth_less xs h.1 in
    let e : unit xs ≡ unit ys = ap (λ n. 256 ^ n) same in
    let f : y * unit xs ≡ y * unit ys = ap (λ n. y * n) e in
    omega (arith, step, f, less)
worth_up (x ∷ xs) (y ∷ ys) h k l (inr t) =
    let same : length xs ≡ length ys = omega (arith, l) in
    let e : x * unit xs ≡ y * unit ys = ap₂ (λ m n. m * 256 ^ n) t.0 same in
    let more = worth_up xs ys h.1 k.1 same t.1 in
    omega (arith, e, more)

up_worth : (xs ys : List ℕ) → AreBytes xs → AreBytes ys → length xs ≡ length ys → worth xs ≤ worth ys → UpTo xs ys
up_worth [] ys h k l le = tt
up_worth (x ∷ xs) [] h k l le = absurd (omega (arith, l))
up_worth (x ∷ xs) (y ∷ ys) h k l le =
    let same : length xs ≡ length ys = omega (arith, l) in
    let e : unit xs ≡ unit ys = ap (λ n. 256 ^ n) same in
    elim (cases_order x y) [
      | inl is ↦
          let f : x * unit xs ≡ y * unit ys = ap₂ (λ m n. m * n) is e in
          inr (is, up_worth xs ys h.1 k.1 same (omega (arith, le, f)))
      | inr (inl lt) ↦ inl lt
      | inr (inr gt) ↦
          let step = apart y x (unit xs) gt in
          let less = worth_less ys k.1 in
          let f : y * unit xs ≡ y * unit ys = ap (λ n. y * n) e in
          absurd (omega (arith, le, step, less, e, f))
    ]

-- eight bytes, written out
eight : (xs : List ℕ) → length xs ≡ 8 → worth xs ≡ from_be_bytes w64 xs
eight [] l = absurd (omega (arith, l))
eight (a ∷ []) l = absurd (omega (arith, l))
eight (a ∷ b ∷ []) l = absurd (omega (arith, l))
eight (a ∷ b ∷ c ∷ []) l = absurd (omega (arith, l))
eight (a ∷ b ∷ c ∷ d ∷ []) l = absurd (omega (arith, l))
eight (a ∷ b ∷ c ∷ d ∷ e ∷ []) l = absurd (omega (arith, l))
eight (a ∷ b ∷ c ∷ d ∷ e ∷ f ∷ []) l = absurd (omega (arith, l))
eight (a ∷ b ∷ c ∷ d ∷ e ∷ f ∷ g ∷ []) l = absurd (omega (arith, l))
eight (a ∷ b ∷ c ∷ d ∷ e ∷ f ∷ g ∷ h ∷ []) l = omega arith
eight (a ∷ b ∷ c ∷ d ∷ e ∷ f ∷ g ∷ h ∷ x ∷ xs) l = absurd (omega (arith, l))

number_is : (n : ℕ) → FitsIn64Bits n → from_be_bytes w64 (number n) ≡ n
unfolding number
number_is n h = from_be_bytes-to_be_bytes_8 n h

-- the order of numbers is that of their bytes
pub number_up : (m n : ℕ) → FitsIn64Bits m → FitsIn64Bits n → m ≤ n → UpTo (number m) (number n)
number_up m n hm hn le =
    up_worth (number m) (number n) (number_bytes m) (number_bytes n) (number_long m ∙ sym (number_long n)) (rw (eight (number m) (number_long m), eight (number n) (number_long n), number_is m hm, number_is n hn) le)

pub up_number : (m n : ℕ) → FitsIn64Bits m → FitsIn64Bits n → UpTo (number m) (number n) → m ≤ n
up_number m n hm hn up =
    let w : worth (number m) ≤ worth (number n) = worth_up (number m) (number n) (number_bytes m) (number_bytes n) (number_long m ∙ sym (number_long n)) up in
    rw (eight (number m) (number_long m), eight (number n) (number_long n), number_is m hm, number_is n hn) at w

-- ---- words between two others, byte by byte
pub record Lies (above below : Bool) (ls hs w : List ℕ) : Type 0 where
  pub long : length w ≡ length ls
  pub bytes : AreBytes w
  pub low : above ≡ false → UpTo ls w
  pub high : below ≡ false → UpTo w hs

pub record Open (above below : Bool) (ls hs : List ℕ) : Type 0 where
  pub long : length hs ≡ length ls
  pub lows : AreBytes ls
  pub highs : AreBytes hs
  pub order : above ≡ false → below ≡ false → UpTo ls hs

-- some word lies there
open_some : (above below : Bool) (ls hs : List ℕ) → Open above below ls hs → (w : List ℕ) × Lies above below ls hs w
open_some false false ls hs o = (ls, record { long = refl; bytes = o.lows; low = λ _. UpTo-refl ls; high = λ _. o.order refl refl })
open_some false true ls hs o = (ls, record { long = refl; bytes = o.lows; low = λ _. UpTo-refl ls; high = λ e. absurd (true≢false e) })
open_some true below ls hs o = (hs, record { long = o.long; bytes = o.highs; low = λ e. absurd (true≢false e); high = λ _. UpTo-refl hs })

-- a byte outside, and one that is not
inside_low : (above below : Bool) (l h b : ℕ) → is_outside above below l h b ≡ false → above ≡ false → l ≤ b
inside_low false below l h b e a = ltb-false b l (or_parts (ltb b l) (not below && ltb h b) e).0
inside_low true below l h b e a = absurd (true≢false a)

inside_high : (above below : Bool) (l h b : ℕ) → is_outside above below l h b ≡ false → below ≡ false → b ≤ h
inside_high above false l h b e a = ltb-false h b (or_parts (not above && ltb b l) (ltb h b) e).1
inside_high above true l h b e a = absurd (true≢false a)

is_inside : (above below : Bool) (l h b : ℕ) → (above ≡ false → l ≤ b) → (below ≡ false → b ≤ h) → is_outside above below l h b ≡ false
is_inside false false l h b p q = rw (le-ltb b l (p refl), le-ltb h b (q refl)) refl
is_inside false true l h b p q = rw (le-ltb b l (p refl)) refl
is_inside true false l h b p q = rw (le-ltb h b (q refl)) refl
is_inside true true l h b p q = refl

head_le : (x y : ℕ) (xs ys : List ℕ) → UpTo (x ∷ xs) (y ∷ ys) → x ≤ y
head_le x y xs ys (inl lt) = omega (arith, lt)
head_le x y xs ys (inr t) = omega (arith, t.0)

tail_up : (x y : ℕ) (xs ys : List ℕ) → UpTo (x ∷ xs) (y ∷ ys) → ltb x y ≡ false → UpTo xs ys
tail_up x y xs ys (inl lt) e = let ge = ltb-false x y e in absurd (omega (arith, lt, ge))
tail_up x y xs ys (inr t) e = t.1

up_cons : (x y : ℕ) (xs ys : List ℕ) → x ≤ y → (ltb x y ≡ false → UpTo xs ys) → UpTo (x ∷ xs) (y ∷ ys)
up_cons x y xs ys le h = elim (cases_lt x y) [ inl lt ↦ inl lt | inr ge ↦ inr (omega arith, h (le-ltb x y ge)) ]

lies_head : (above below : Bool) (l h b : ℕ) (ls hs w : List ℕ) → Lies above below (l ∷ ls) (h ∷ hs) (b ∷ w) → is_outside above below l h b ≡ false
lies_head above below l h b ls hs w i = is_inside above below l h b (λ e. head_le l b ls w (i.low e)) (λ e. head_le b h w hs (i.high e))

lies_tail : (above below : Bool) (l h b : ℕ) (ls hs w : List ℕ) → Lies above below (l ∷ ls) (h ∷ hs) (b ∷ w) → Lies (above || ltb l b) (below || ltb b h) ls hs w
lies_tail above below l h b ls hs w i = record {
  long = omega (arith, i.long);
  bytes = i.bytes.1;
  low = λ e. let p = or_parts above (ltb l b) e in tail_up l b ls w (i.low p.0) p.1;
  high = λ e. let p = or_parts below (ltb b h) e in tail_up b h w hs (i.high p.0) p.1;
}

lies_cons : (above below : Bool) (l h b : ℕ) (ls hs w : List ℕ) → b < 256 → is_outside above below l h b ≡ false → Lies (above || ltb l b) (below || ltb b h) ls hs w → Lies above below (l ∷ ls) (h ∷ hs) (b ∷ w)
lies_cons above below l h b ls hs w small e i = record {
  long = ap suc i.long;
  bytes = (small, i.bytes);
  low = λ a. up_cons l b ls w (inside_low above below l h b e a) (λ f. i.low (or_from above (ltb l b) a f));
  high = λ a. up_cons b h w hs (inside_high above below l h b e a) (λ f. i.high (or_from below (ltb b h) a f));
}

open_tail : (above below : Bool) (l h b : ℕ) (ls hs : List ℕ) → is_outside above below l h b ≡ false → Open above below (l ∷ ls) (h ∷ hs) → Open (above || ltb l b) (below || ltb b h) ls hs
open_tail above below l h b ls hs e o = record {
  long = omega (arith, o.long);
  lows = o.lows.1;
  highs = o.highs.1;
  order = λ p q.
      let a = or_parts above (ltb l b) p in
      let c = or_parts below (ltb b h) q in
      let m = ltb-false l b a.1 in
      let n = ltb-false b h c.1 in
      tail_up l h ls hs (o.order a.0 c.0) (le-ltb l h (omega (arith, m, n)));
}

abbrev StopsLie : (above below : Bool) (ls hs xs : List ℕ) → ℕ → Type 0
StopsLie above below ls hs xs left = Stops (Lies above below ls hs) (Lies above below ls hs) xs left

word_end : (above below : Bool) (l h : ℕ) (ls hs : List ℕ) → (w : List ℕ) × Lies above below (l ∷ ls) (h ∷ hs) w → StopsLie above below (l ∷ ls) (h ∷ hs) [] 0
word_end above below l h ls hs ([], i) = absurd (omega (arith, i.long))
word_end above below l h ls hs (d ∷ w, i) = stops_short (Lies above below (l ∷ ls) (h ∷ hs)) (Lies above below (l ∷ ls) (h ∷ hs)) [] d w i

word_byte : (above below : Bool) (l h x : ℕ) (ls hs xs : List ℕ) (out : Bool) → x < 256 → is_outside above below l h x ≡ out → (w : List ℕ) × Lies above below (l ∷ ls) (h ∷ hs) w
    → (out ≡ false → StopsLie (above || ltb l x) (below || ltb x h) ls hs xs (left_in_word (above || ltb l x) (below || ltb x h) ls hs xs))
    → StopsLie above below (l ∷ ls) (h ∷ hs) (x ∷ xs) (cond out (suc (length xs)) (left_in_word (above || ltb l x) (below || ltb x h) ls hs xs))
word_byte above below l h x ls hs xs out small e ([], i) later = absurd (omega (arith, i.long))
word_byte above below l h x ls hs xs true small e (d ∷ w, i) later =
    stops_here (Lies above below (l ∷ ls) (h ∷ hs)) (Lies above below (l ∷ ls) (h ∷ hs)) x xs d w i (λ ys j. true≢false (sym e ∙ lies_head above below l h x ls hs ys j))
word_byte above below l h x ls hs xs false small e (d ∷ w, i) later =
    stops_later (Lies (above || ltb l x) (below || ltb x h) ls hs) (Lies (above || ltb l x) (below || ltb x h) ls hs) (Lies above below (l ∷ ls) (h ∷ hs)) (Lies above below (l ∷ ls) (h ∷ hs)) x xs
    (left_in_word (above || ltb l x) (below || ltb x h) ls hs xs)
    (λ v j. lies_cons above below l h x ls hs v small e j) (λ v j. lies_tail above below l h x ls hs v j) (later refl)

pub word_stops : (above below : Bool) (ls hs xs : List ℕ) → AreBytes xs → Open above below ls hs → ((w rest : List ℕ) → xs ≡ w ++ rest → Lies above below ls hs w → ⊥)
    → StopsLie above below ls hs xs (left_in_word above below ls hs xs)
word_stops above below [] hs xs b o none =
    let m = open_some above below [] hs o in
    absurd (none [] xs refl (subst (Lies above below [] hs) (nil_from_length m.0 m.1.long) m.1))
word_stops above below (l ∷ ls) [] xs b o none = absurd (omega (arith, o.long))
word_stops above below (l ∷ ls) (h ∷ hs) [] b o none = word_end above below l h ls hs (open_some above below (l ∷ ls) (h ∷ hs) o)
word_stops above below (l ∷ ls) (h ∷ hs) (x ∷ xs) b o none =
    word_byte above below l h x ls hs xs (is_outside above below l h x) b.0 refl (open_some above below (l ∷ ls) (h ∷ hs) o)
    (λ e. word_stops (above || ltb l x) (below || ltb x h) ls hs xs b.1 (open_tail above below l h x ls hs e o)
    (λ w rest f i. none (x ∷ w) rest (ap (λ (t : List ℕ). x ∷ t) f) (lies_cons above below l h x ls hs w b.0 e i)))

-- ---- a number between two others
pub record IsWithin (low high n : ℕ) : Type 0 where
  pub from : low ≤ n
  pub upto : n ≤ high

within_word : (low high n : ℕ) → high < 2 ^ 64 → IsWithin low high n → FitsIn64Bits n
within_word low high n h i = omega (arith, h, i.upto)

lies_spelled : (low high : ℕ) (w : List ℕ) → low ≤ high → high < 2 ^ 64 → Lies false false (number low) (number high) w → Encoded (IsWithin low high) number w
lies_spelled low high w le h i =
    let n = from_be_bytes w64 w in
    let b = word_back w (i.long ∙ number_long low) i.bytes in
    let low' : UpTo (number low) (number n) = rw b.0 (i.low refl) in
    let high' : UpTo (number n) (number high) = rw b.0 (i.high refl) in
    (n, record { from = up_number low n (omega (arith, le, h)) b.1 low'; upto = up_number n high b.1 h high' }, sym b.0)

spelled_lies : (low high : ℕ) (w : List ℕ) → low ≤ high → high < 2 ^ 64 → Encoded (IsWithin low high) number w → Lies false false (number low) (number high) w
spelled_lies low high w le h s =
    let word = within_word low high s.0 h s.1 in
    let i : Lies false false (number low) (number high) (number s.0) = record {
      long = number_long s.0 ∙ sym (number_long low);
      bytes = number_bytes s.0;
      low = λ _. number_up low s.0 (omega (arith, le, h)) word s.1.from;
      high = λ _. number_up s.0 high word h s.1.upto;
    } in
    subst (Lies false false (number low) (number high)) (sym s.2) i

pub between_one : (low high : ℕ) → high < 2 ^ 64 → OneForm (IsWithin low high) number
between_one low high h m n x y p q e = number_one m n x y (within_word low high m h p) (within_word low high n h q) e

abbrev got : List ℕ → ℕ × List ℕ
got xs = (from_be_bytes w64 (take 8 xs), drop 8 xs)

between_yes : (low high : ℕ) (xs : List ℕ) → is_between low high xs ≡ true → (8 ≤ length xs) × IsWithin low high (from_be_bytes w64 (take 8 xs))
between_yes low high xs e =
    let a = and_parts (leb 8 (length xs) && leb low (from_be_bytes w64 (take 8 xs))) (leb (from_be_bytes w64 (take 8 xs)) high) e in
    let b = and_parts (leb 8 (length xs)) (leb low (from_be_bytes w64 (take 8 xs))) a.0 in
    (leb-true _ _ b.0, record { from = leb-true _ _ b.1; upto = leb-true _ _ a.1 })

between_from : (low high : ℕ) (xs w rest : List ℕ) → high < 2 ^ 64 → low ≤ high → xs ≡ w ++ rest → Lies false false (number low) (number high) w → is_between low high xs ≡ true
between_from low high xs w rest h le e i =
    let s = lies_spelled low high w le h i in
    let long : length w ≡ 8 = i.long ∙ number_long low in
    let front : take 8 xs ≡ w = ap (take 8) e ∙ take_at w rest 8 long in
    let is : from_be_bytes w64 (take 8 xs) ≡ s.0 = ap (from_be_bytes w64) (front ∙ s.2) ∙ number_is s.0 (within_word low high s.0 h s.1) in
    let enough : 8 ≤ length xs = omega (arith, ap length e, length-append w rest, long) in
    rw (is, le-leb 8 (length xs) enough, le-leb low s.0 s.1.from, le-leb s.0 high s.1.upto) refl

pub between_exact : (low high : ℕ) → low ≤ high → high < 2 ^ 64 → Exact (IsWithin low high) number (number_between low high)
unfolding number
between_exact low high le h = record {
  found = λ xs k n rest e. by_found xs k n rest (is_between low high xs) refl e;
  fault = λ xs k left e. by_fault xs k left (is_between low high xs) refl e;
}
  where
    by_found : (xs : List ℕ) → IsInput xs → (n : ℕ) (rest : List ℕ) (t : Bool) → is_between low high xs ≡ t
        → cond t (Ok (got xs)) (failed (left_in_word false false (to_be_bytes w64 low) (to_be_bytes w64 high) xs)) ≡ Ok (n, rest) → IsWithin low high n × (xs ≡ number n ++ rest)
    by_found xs k n rest true t e =
        let y = between_yes low high xs t in
        let b = word_back (take 8 xs) (omega (arith, y.0, length-take 8 xs)) (bytes_left (take 8 xs) (drop 8 xs) (subst AreBytes (sym (take-append-drop 8 xs)) k.bytes)) in
        subst (λ (r : ℕ × List ℕ). IsWithin low high r.0 × (xs ≡ number r.0 ++ r.1)) (ok_is (got xs) (n, rest) e) (y.1, sym (take-append-drop 8 xs) ∙ ap (λ (w : List ℕ). w ++ drop 8 xs) (sym b.0))
    by_found xs k n rest false t e = absurd (err_no_ok _ (n, rest) e)

    by_fault : (xs : List ℕ) → IsInput xs → (left : ℕ) (t : Bool) → is_between low high xs ≡ t
        → cond t (Ok (got xs)) (failed (left_in_word false false (to_be_bytes w64 low) (to_be_bytes w64 high) xs)) ≡ Err left → Stops (Encoded (IsWithin low high) number) (Encoded (IsWithin low high) number) xs left
    by_fault xs k left true t e = absurd (ok_no_err (got xs) left e)
    by_fault xs k left false t e =
        let o : Open false false (number low) (number high) = record {
          long = number_long high ∙ sym (number_long low);
          lows = number_bytes low;
          highs = number_bytes high;
          order = λ _ _. number_up low high (omega (arith, le, h)) h le;
        } in
        let none : (w rest : List ℕ) → xs ≡ w ++ rest → Lies false false (number low) (number high) w → ⊥ = λ w rest f i. true≢false (sym (between_from low high xs w rest h le f i) ∙ t) in
        let s = word_stops false false (number low) (number high) xs k.bytes o none in
        let m = stops_map (Lies false false (number low) (number high)) (Lies false false (number low) (number high)) (Encoded (IsWithin low high) number) (Encoded (IsWithin low high) number) xs
        (left_in_word false false (number low) (number high) xs) (λ w i. lies_spelled low high w le h i) (λ w i. spelled_lies low high w le h i) s in
        subst (λ (n : ℕ). Stops (Encoded (IsWithin low high) number) (Encoded (IsWithin low high) number) xs n) (err_is _ left e) m

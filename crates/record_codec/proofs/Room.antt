-- After each text that is not as long as can be there is room for as many greater ones as can be
-- counted.
use Rattle.std.proofs.Common.{◌≡◌, ℕ, zero, suc, ◌+◌, ◌*◌, ◌^◌, ◌<◌, ◌≤◌, Bool, true, List, [], ◌∷◌, ◌++◌, length, get_or, refl, inl, inr, length-append, arith, lit<, lit≤}
use Rattle.std.specs.Str.{IsUtf8, IsAscii}
use Rattle.std.proofs.lemmas.Bool.{cases_lt}
use Rattle.std.proofs.lemmas.Str.{IsUtf8-append, IsUtf8-from_ascii}
use Rattle.record_codec.specs.Widths.{LengthFitsIn64Bits}
use Rattle.record_codec.proofs.Between.{zeros, zeros_long}
use Rattle.record_codec.proofs.Utf.{Less_than, head_less, tail_less}

-- a text, and above the bound where there is one
pub record IsAbove (s : Bool × List ℕ) (t : List ℕ) : Type 0 where
  pub text : IsUtf8 t
  pub word : LengthFitsIn64Bits t
  pub above : s.0 ≡ true → Less_than s.1 t

-- texts that rise from a bound on
abbrev pub Texts : Bool × List ℕ → ℕ → List (List ℕ) → Type 0
Texts s zero [] = Unit {0}
Texts s zero (t ∷ more) = ⊥
Texts s (suc n) [] = ⊥
Texts s (suc n) (t ∷ more) = IsAbove s t × Texts (true, t) n more

abbrev pub Some_texts : Bool × List ℕ → ℕ → Type 0
Some_texts s n = (more : List (List ℕ)) × Texts s n more

under : (c p w : List ℕ) → Less_than p w → Less_than (c ++ p) (c ++ w)
under [] p w h = h
under (x ∷ c) p w h = tail_less x x (c ++ p) (c ++ w) refl (under c p w h)

one_more_zero : (n : ℕ) → Less_than (zeros n) (zeros (suc n))
one_more_zero zero = refl
one_more_zero (suc n) = tail_less 0 0 (zeros n) (zeros (suc n)) refl (one_more_zero n)

abbrev tail : ℕ → ℕ → List ℕ
tail d i = d ∷ zeros i

tail_ascii : (d i : ℕ) → d < 128 → IsUtf8 (tail d i)
tail_ascii d i h = IsUtf8-from_ascii (tail d i) ascii
  where
    zeros_small : (n k : ℕ) → get_or (zeros n) k 0 < 128
    zeros_small zero k = lit< tt
    zeros_small (suc n) zero = lit< tt
    zeros_small (suc n) (suc k) = zeros_small n k

    ascii : IsAscii (tail d i)
    ascii zero = h
    ascii (suc k) = zeros_small i k

-- texts that continue from c: at first d and zeros, then d + 1 and zeros, as many zeros as 2^62
grow : (n : ℕ) (c : List ℕ) (d i : ℕ) → IsUtf8 c → length c ≤ 2 ^ 63 + 4 → i ≤ 2 ^ 62 → d ≤ 6 → n + i + d * (2 ^ 62 + 1) ≤ 6 * (2 ^ 62 + 1) → Some_texts (true, c ++ tail d i) n
grow zero c d i u l k b e = ([], tt)
grow (suc n) c d i u l k b e = elim (cases_lt i (2 ^ 62)) [
  | inl lt ↦
      let t = c ++ tail d (suc i) in
      let one : IsAbove (true, c ++ tail d i) t = record {
        text = IsUtf8-append c (tail d (suc i)) u (tail_ascii d (suc i) (omega arith));
        word = omega (arith, length-append c (tail d (suc i)), zeros_long i, l, lt);
        above = λ _. under c (tail d i) (tail d (suc i)) (tail_less d d (zeros i) (zeros (suc i)) refl (one_more_zero i));
      } in
      let more = grow n c d (suc i) u l lt b (omega (arith, e)) in
      (t ∷ more.0, (one, more.1))
  | inr ge ↦
      let t = c ++ tail (suc d) 0 in
      let few : suc d ≤ 6 = omega (arith, e, ge) in
      let one : IsAbove (true, c ++ tail d i) t = record {
        text = IsUtf8-append c (tail (suc d) 0) u (tail_ascii (suc d) 0 (omega arith));
        word = omega (arith, length-append c (tail (suc d) 0), l);
        above = λ _. under c (tail d i) (tail (suc d) 0) (head_less d (suc d) (zeros i) [] (omega arith));
      } in
      let more = grow n c (suc d) 0 u l (omega arith) few (omega (arith, e, k, ge)) in
      (t ∷ more.0, (one, more.1))
]

first_above : (n : ℕ) → Less_than (zeros n) (1 ∷ [])
first_above zero = refl
first_above (suc n) = head_less 0 1 (zeros n) [] (lit< tt)

pub room : (c : List ℕ) (k n : ℕ) → IsUtf8 c → length c ≤ 2 ^ 63 + 4 → n < 2 ^ 64 → Some_texts (true, c ++ zeros k) n
room c k zero u l h = ([], tt)
room c k (suc n) u l h =
    let t = c ++ tail 1 0 in
    let one : IsAbove (true, c ++ zeros k) t = record {
      text = IsUtf8-append c (tail 1 0) u (tail_ascii 1 0 (lit< tt));
      word = omega (arith, length-append c (tail 1 0), l);
      above = λ _. under c (zeros k) (tail 1 0) (first_above k);
    } in
    let more = grow n c 1 0 u l (omega arith) (lit≤ tt) (omega (arith, h)) in
    (t ∷ more.0, (one, more.1))

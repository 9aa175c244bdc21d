-- Bytes cut at the first byte of a value.
use Rattle.std.proofs.Common.{◌≡◌, ◌<◌, ◌+◌, ℕ, zero, suc, Bool, true, false, eqb, List, [], ◌∷◌, length, take, drop, get_or, Option, None, Some, refl, sym, ap, ◌∙◌, arith, add-one}
use Rattle.std.specs.Option.{MatchOption}
use Rattle.memchr.specs.Find.{IsFirstByte, is_byte}
use Rattle.jmap_http.specs.Cuts.{cut_before, cut_after}

not_true : (b : Bool) → (b ≡ true → ⊥) → b ≡ false
not_true true h = absurd (h refl)
not_true false h = refl

cut_whole : (byte : ℕ) (xs : List ℕ) → ((k : ℕ) → k < length xs → eqb (get_or xs k 0) byte ≡ false)
    → (cut_before byte xs ≡ xs) × (cut_after byte xs ≡ None)
cut_whole byte [] none = (refl, refl)
cut_whole byte (b ∷ bs) none =
    let rest : (cut_before byte bs ≡ bs) × (cut_after byte bs ≡ None) = cut_whole byte bs (λ k low. none (suc k) (omega arith)) in
    rw (none 0 (omega arith)) (ap (λ ys. b ∷ ys) rest.0, rest.1)

cut_there : (byte : ℕ) (xs : List ℕ) (i : ℕ) → i < length xs → ((k : ℕ) → k < i → eqb (get_or xs k 0) byte ≡ false) → eqb (get_or xs i 0) byte ≡ true
    → (cut_before byte xs ≡ take i xs) × (cut_after byte xs ≡ Some (drop (suc i) xs))
cut_there byte [] i inside before here = absurd (omega arith)
cut_there byte (b ∷ bs) zero inside before here = rw here (refl, refl)
cut_there byte (b ∷ bs) (suc i) inside before here =
    let rest : (cut_before byte bs ≡ take i bs) × (cut_after byte bs ≡ Some (drop (suc i) bs)) = cut_there byte bs i (omega arith) (λ k low. before (suc k) (omega arith)) here in
    rw (before 0 (omega arith)) (ap (λ ys. b ∷ ys) rest.0, rest.1)

pub cut_found : (byte : ℕ) (bytes : List ℕ) (o : Option ℕ) → IsFirstByte (is_byte byte) bytes o
    → MatchOption o ((cut_before byte bytes ≡ bytes) × (cut_after byte bytes ≡ None))
    (λ i. (cut_before byte bytes ≡ take i bytes) × (cut_after byte bytes ≡ Some (drop (i + 1) bytes)) × (i < length bytes))
cut_found byte bytes None none = cut_whole byte bytes (λ k low. not_true _ (none k (omega arith) low))
cut_found byte bytes (Some i) some =
    let there = cut_there byte bytes i some.0.high (λ k low. not_true _ (some.0.before k (omega arith) low)) some.1 in
    (there.0, there.1 ∙ ap (λ (n : ℕ). Some (drop n bytes)) (sym (add-one i)), some.0.high)

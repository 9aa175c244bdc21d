-- The first CR of a block, by the lowest bit of a mask.
use Rattle.std.proofs.Common.{◌≡◌, ◌≢◌, ◌↔◌, ℕ, zero, suc, ◌<◌, ◌≤◌, Bool, true, false, cond, eqb, List, [], ◌∷◌, length, get_or, refl, ap, sym, subst, ◌∙◌, arith}
use Rattle.std.specs.Int.{bit_at}
use Rattle.std.proofs.lemmas.Bool.{eqb-true}
use Rattle.memchr.specs.Lanes.{HasLanes}

in_reach : (xs : List ℕ) (i : ℕ) → 0 < get_or xs i 0 → i < length xs
in_reach [] i h = absurd (omega (arith, h))
in_reach (x ∷ xs) zero h = omega arith
in_reach (x ∷ xs) (suc i) h = omega (arith, in_reach xs i h)

is_marked : (b : ℕ) (v : Bool) → eqb b 13 ≡ v → 128 ≤ cond v 255 0 → b ≡ 13
is_marked b true e h = eqb-true b 13 e
is_marked b false e h = absurd (omega (arith, h))

pub first_of : (block v marks : List ℕ) (m p : ℕ) → HasLanes v (λ k. get_or block k 0) → HasLanes marks (λ k. cond (eqb (get_or v k 0) 13) 255 0)
    → ((k : ℕ) → (bit_at m k ≡ 1) ↔ (128 ≤ get_or marks k 0)) → bit_at m p ≡ 1 → ((k : ℕ) → k < p → bit_at m k ≡ 0)
    → (p < 32) × (get_or block p 0 ≡ 13) × ((k : ℕ) → k < p → get_or block k 0 ≢ 13)
first_of block v marks m p loaded marked bits set below =
    let high : 128 ≤ get_or marks p 0 = (bits p).0 set in
    let within : p < 32 = omega (arith, in_reach marks p (omega (arith, high)), marked.long) in (
      within,
      sym (loaded.each p within) ∙ is_marked (get_or v p 0) (eqb (get_or v p 0) 13) refl (subst (λ n. 128 ≤ n) (marked.each p within) high),
      λ k low is.
          let near : k < 32 = omega (arith, low, within) in
          let mark : get_or marks k 0 ≡ 255 = marked.each k near ∙ ap (λ b. cond (eqb b 13) 255 0) (loaded.each k near ∙ is) in
          let one : bit_at m k ≡ 1 = (bits k).1 (omega (arith, mark)) in
          omega (arith, one, below k low),
    )

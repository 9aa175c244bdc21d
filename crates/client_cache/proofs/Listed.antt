-- A list of a cache that changes in place.
use Rattle.std.proofs.Common.{◌≡◌, ℕ, zero, suc, ◌<◌, ◌≤◌, List, [], ◌∷◌, map, set, length, get_or, refl, ap, ◌∙◌, arith}
use Rattle.client_cache.specs.Caches.{ListView}
use Rattle.client_cache.specs.Records.{update_at}

pub updated : {X : Type 0} (view : X → ListView) (f : ListView → ListView) (xs : List X) (i : ℕ) (x y : X) → i < length xs → x ≡ get_or xs i x → view y ≡ f (view x)
    → map view (set xs i y) ≡ update_at i f (map view xs)
updated view f [] i x y h is same = absurd (omega (arith, h))
updated view f (z ∷ zs) zero x y h is same = ap (λ v. v ∷ map view zs) (same ∙ ap (λ w. f (view w)) is)
updated view f (z ∷ zs) (suc i) x y h is same = ap (λ vs. view z ∷ vs) (updated view f zs i x y (omega (arith, h)) is same)

pub not_updated : {X : Type 0} (view : X → ListView) (f : ListView → ListView) (xs : List X) (i : ℕ) → length xs ≤ i → map view xs ≡ update_at i f (map view xs)
not_updated view f [] i h = refl
not_updated view f (z ∷ zs) zero h = absurd (omega (arith, h))
not_updated view f (z ∷ zs) (suc i) h = ap (λ vs. view z ∷ vs) (not_updated view f zs i (omega (arith, h)))

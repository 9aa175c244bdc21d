-- What holds of each byte, by a table of all.
use Rattle.std.proofs.Common.{◌≡◌, ℕ, zero, suc, ◌+◌, ◌<◌, List, [], ◌∷◌, get_or, map, refl, sym, ap, ◌∙◌, arith}

-- the numbers from k on
abbrev pub counted : ℕ → ℕ → List ℕ
counted k zero = []
counted k (suc n) = k ∷ counted (suc k) n

map-counted : {A : Type 0} (f : ℕ → A) (d : A) (k n i : ℕ) → i < n → get_or (map f (counted k n)) i d ≡ f (k + i)
map-counted f d k zero i h = absurd (omega arith)
map-counted f d k (suc n) zero h = let same : k ≡ k + 0 = omega arith in ap f same
map-counted f d k (suc n) (suc i) h = let same : suc k + i ≡ k + suc i = omega arith in map-counted f d (suc k) n i (omega arith) ∙ ap f same

pub entry_of : {A : Type 0} (f : ℕ → A) (d : A) (table : List A) → table ≡ map f (counted 0 256) → (b : ℕ) → b < 256 → get_or table b d ≡ f b
entry_of f d table e b h = let same : 0 + b ≡ b = omega arith in ap (λ t. get_or t b d) e ∙ map-counted f d 0 256 b h ∙ ap f same

pub for_bytes : {A : Type 0} (f g : ℕ → A) (d : A) → map f (counted 0 256) ≡ map g (counted 0 256) → (b : ℕ) → b < 256 → f b ≡ g b
for_bytes f g d e b h = sym (entry_of f d (map f (counted 0 256)) refl b h) ∙ entry_of g d (map f (counted 0 256)) e b h

-- what holds of each number below a bound
pub for_below : {A : Type 0} (f g : ℕ → A) (d : A) (n : ℕ) → map f (counted 0 n) ≡ map g (counted 0 n) → (k : ℕ) → k < n → f k ≡ g k
for_below f g d n e k h =
    let same : 0 + k ≡ k = omega arith in
    ap f (sym same) ∙ sym (map-counted f d 0 n k h) ∙ ap (λ t. get_or t k d) e ∙ map-counted g d 0 n k h ∙ ap g same

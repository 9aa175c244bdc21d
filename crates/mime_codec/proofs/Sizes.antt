-- Four letters are three bytes, and what is left is rounded down.
use Rattle.std.proofs.Common.{◌≡◌, ℕ, ◌+◌, ◌*◌, ◌/◌, ◌%◌, List, [], ◌∷◌, length, refl, arith}
use Rattle.mime_codec.specs.Base64.{packed}

pub length-packed : (xs : List ℕ) → length (packed xs) ≡ length xs / 4 * 3 + length xs % 4 * 3 / 4
length-packed [] = refl
length-packed (a ∷ []) = refl
length-packed (a ∷ b ∷ []) = refl
length-packed (a ∷ b ∷ c ∷ []) = refl
length-packed (a ∷ b ∷ c ∷ d ∷ rest) = omega (arith, length-packed rest)

-- The letters of base64 that wait until four are there.
use Rattle.std.specs.Prelude.{ℕ, ◌<◌, List, ◌∷◌}
use Rattle.mime_codec.specs.declared.base64.Waiting.{Waiting}
use Rattle.mime_codec.specs.declared.base64.Waiting.TheVariants.{Nothing, One, Two, Three}

-- the letters that wait, and then the later ones
abbrev pub before : Waiting → List ℕ → List ℕ
before Nothing later = later
before (One a) later = a ∷ later
before (Two a b) later = a ∷ b ∷ later
before (Three a b c) later = a ∷ b ∷ c ∷ later

-- each has six bits
abbrev pub AreSmall : Waiting → Type 0
AreSmall Nothing = Unit {0}
AreSmall (One a) = a < 64
AreSmall (Two a b) = (a < 64) × (b < 64)
AreSmall (Three a b c) = (a < 64) × (b < 64) × (c < 64)

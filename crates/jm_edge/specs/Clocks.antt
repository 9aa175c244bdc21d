-- What a clock shows where its timestamps are known.
use Rattle.std.specs.Prelude.{◌≡◌, ℕ, List, [], ◌∷◌, Option, None, Some, ⊤}

-- The clock showed this timestamp: the first of those that were to come, where these are known; now
-- the others are to come. Where none is known to come, the clock may show any.
abbrev pub Shows : Option (List ℕ) → Option (List ℕ) → ℕ → Type 0
Shows None now shown = ⊤
Shows (Some []) now shown = now ≡ Some []
Shows (Some (time ∷ times)) now shown = (shown ≡ time) × (now ≡ Some times)

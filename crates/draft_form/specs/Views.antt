-- What contracts see of pairs of the code.
use Rattle.std.specs.Prelude.{ℕ, List}
use denote.Ref.{Bor}

abbrev pub halves : Bor (List ℕ) × Bor (List ℕ) → List ℕ × List ℕ
halves x = (x.0.now, x.1.now)

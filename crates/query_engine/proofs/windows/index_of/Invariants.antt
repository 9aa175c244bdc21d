use Rattle.std.proofs.Common.{◌≡◌, ℕ, drop}
use Rattle.std.specs.Prelude.{◌==◌}
use Rattle.query_engine.specs.Windows.{index_where}
use Rattle.query_engine.proofs.windows.index_of.Given as goal

abbrev pub invariant-loop-other : goal.invariant-loop-other
invariant-loop-other l =
    (l.index ≡ l.other-index) × (index_where (λ (n : ℕ). n == l.number) l.index (drop l.other-index l.list) ≡ index_where (λ (n : ℕ). n == l.number) 0 l.list)

use Rattle.std.proofs.Common.{◌≡◌, false, ◌+◌, All}
use Rattle.measure.proofs.lock.passes.Given as goal

abbrev pub invariant-loop-index : goal.invariant-loop-index
invariant-loop-index l = (l.root ≡ record l.initial.root { given = l.initial.root.given + l.index }) × All (λ p. (p.lock ≡ l.initial.lock.id) × (p.root ≡ false) × (p.holds ≡ false)) l.passes.items

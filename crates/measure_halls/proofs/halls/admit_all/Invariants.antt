use Rattle.std.proofs.Common.{◌≡◌, ◌<◌, All, length}
use Rattle.account_hall.specs.Halls.{AreOf}
use Rattle.measure_halls.proofs.halls.admit_all.Given as goal

abbrev pub invariant-loop-number : goal.invariant-loop-number
invariant-loop-number g l = AreOf l.hall l.front.roots × (l.front.admitted ≡ l.number) × All (λ s. AreOf l.hall s.passes.passes × (s.account < length l.hall)) l.sessions.items

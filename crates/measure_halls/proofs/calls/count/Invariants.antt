use Rattle.account_hall.specs.Halls.{AreOf}
use Rattle.measure_halls.proofs.calls.count.Given as goal

abbrev pub invariant-loop : goal.invariant-loop
invariant-loop g l = AreOf l.hall l.passes.passes

use Rattle.account_hall.specs.Halls.{AreOf}
use Rattle.tests_halls.proofs.account_hall_copy_tests.copy_often.Given as goal

abbrev pub invariant-loop-moment : goal.invariant-loop-moment
invariant-loop-moment g l = AreOf l.hall l.passes.passes

use Rattle.std.proofs.Common.{◌≡◌}
use Rattle.account_hall.specs.Halls.{AreOf}
use Rattle.tests_halls.proofs.account_hall_room_tests.fill.Given as goal

abbrev pub invariant-loop-n : goal.invariant-loop-n
invariant-loop-n g l = record {
  hall : AreOf l.hall l.front.roots;
  session : AreOf l.hall l.last.passes;
  count : l.front.admitted ≡ l.n;
}

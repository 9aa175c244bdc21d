use Rattle.std.proofs.Common.{◌≡◌}
use Rattle.account_lock.proofs.tests.turns.Given as goal

abbrev pub invariant-loop-serial : goal.invariant-loop-serial
invariant-loop-serial g l = l.pass ≡ record l.initial.pass { last = l.pass.last; seen = l.pass.seen; own = l.pass.own }

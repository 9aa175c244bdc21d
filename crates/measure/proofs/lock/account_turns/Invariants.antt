use Rattle.std.proofs.Common.{◌≡◌}
use Rattle.measure.proofs.lock.account_turns.Given as goal

abbrev pub invariant-loop : goal.invariant-loop
invariant-loop g l = l.pass ≡ record l.initial.pass { last = l.pass.last; seen = l.pass.seen; own = l.pass.own }

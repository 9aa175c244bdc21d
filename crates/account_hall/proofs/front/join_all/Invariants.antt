use Rattle.std.proofs.Common.{◌≡◌, drop, length}
use Rattle.account_hall.proofs.Fronts.{Joined}
use Rattle.account_hall.proofs.front.join_all.Given as goal

abbrev pub invariant-loop-pass : goal.invariant-loop-pass
invariant-loop-pass g l = record {
  rest : l.rest.items ≡ drop l.i l.fn.list.items;
  joined : Joined l.fn.inside l.fn.admitted l.i l.roots.items l.fn.roots.items l.fn.list.items;
}

abbrev pub decreases-loop-pass : goal.decreases-loop-pass
decreases-loop-pass g l = length l.rest.items

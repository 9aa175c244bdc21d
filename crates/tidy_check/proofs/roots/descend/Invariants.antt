use Rattle.std.proofs.Common.{length}
use Rattle.tidy_check.specs.Chains.{AreDepths, IsClimbed}
use Rattle.tidy_check.proofs.roots.descend.Given as goal

abbrev pub invariant-loop-number : goal.invariant-loop-number
invariant-loop-number l = IsClimbed l.content.content l.fn.start l.rest.items l.total × AreDepths l.content.content l.depths

abbrev pub decreases-loop-number : goal.decreases-loop-number
decreases-loop-number l = length l.rest.items

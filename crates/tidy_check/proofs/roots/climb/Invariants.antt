use Rattle.std.proofs.Common.{◌≡◌, ◌≤◌, ◌-◌, length}
use Rattle.tidy_check.specs.Chains.{IsPath}
use Rattle.tidy_check.proofs.roots.climb.Given as goal

abbrev pub invariant-loop-next : goal.invariant-loop-next
invariant-loop-next l = (l.limit ≡ length l.content.content.mailboxes) × (length l.path.items ≤ l.limit) × IsPath l.content.content l.fn.start l.path.items l.next

abbrev pub decreases-loop-next : goal.decreases-loop-next
decreases-loop-next l = l.limit - length l.path.items

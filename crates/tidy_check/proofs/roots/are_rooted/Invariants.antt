use Rattle.std.proofs.Common.{◌≡◌, drop}
use Rattle.std.specs.List.{list_all}
use Rattle.tidy_check.specs.Chains.{AreDepths}
use Rattle.tidy_check.specs.Checks.{is_rooted}
use Rattle.tidy_check.proofs.roots.are_rooted.Given as goal

abbrev pub invariant-loop-mailbox : goal.invariant-loop-mailbox
invariant-loop-mailbox l = (list_all (is_rooted l.content.content) (drop l.mailbox-index l.mailboxes) ≡ list_all (is_rooted l.content.content) l.mailboxes) × AreDepths l.content.content l.depths

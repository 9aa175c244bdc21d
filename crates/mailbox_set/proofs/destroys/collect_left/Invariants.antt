use Rattle.std.proofs.Common.{◌≡◌, take}
use Rattle.mailbox_updates.specs.EmailsLeft.{mailboxes_but, mailboxes_left}
use Rattle.mailbox_set.proofs.destroys.collect_left.Given as goal

abbrev pub invariant-loop-mailbox : goal.invariant-loop-mailbox
invariant-loop-mailbox l = l.left.items ≡ mailboxes_but l.number (mailboxes_left l.destroyed (take l.mailbox-index l.mailboxes))

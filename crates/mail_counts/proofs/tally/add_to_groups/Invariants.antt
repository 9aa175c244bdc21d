use Rattle.std.proofs.Common.{◌≡◌, ◌++◌, drop, map}
use Rattle.mail_counts.specs.Members.{mailbox_member}
use Rattle.mail_counts.proofs.tally.add_to_groups.Given as goal

abbrev pub invariant-loop-mailbox : goal.invariant-loop-mailbox
invariant-loop-mailbox l = l.members.items ++ map (mailbox_member l.number) (drop l.mailbox-index l.mailboxes) ≡ l.fn.members.items ++ map (mailbox_member l.number) l.mailboxes

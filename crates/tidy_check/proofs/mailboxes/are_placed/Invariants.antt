use Rattle.std.proofs.Common.{◌≡◌, drop}
use Rattle.std.specs.List.{list_all}
use Rattle.tidy_check.specs.Checks.{is_placed}
use Rattle.tidy_check.proofs.mailboxes.are_placed.Given as goal

abbrev pub invariant-loop-mailbox : goal.invariant-loop-mailbox
invariant-loop-mailbox l = list_all (is_placed l.content.content) (drop l.mailbox-index l.mailboxes) ≡ list_all (is_placed l.content.content) l.mailboxes

use Rattle.std.proofs.Common.{◌≡◌, drop}
use Rattle.std.specs.List.{list_all}
use Rattle.tidy_check.specs.Checks.{is_mailbox}
use Rattle.tidy_check.proofs.emails.has_only_mailboxes.Given as goal

abbrev pub invariant-loop-number : goal.invariant-loop-number
invariant-loop-number l = list_all (is_mailbox l.content.content) (drop l.number-index l.numbers) ≡ list_all (is_mailbox l.content.content) l.numbers

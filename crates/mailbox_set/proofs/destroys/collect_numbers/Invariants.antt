use Rattle.std.proofs.Common.{◌≡◌, map, take}
use Rattle.mail_records.specs.Orders.{placed_owner}
use Rattle.mailbox_set.proofs.destroys.collect_numbers.Given as goal

abbrev pub invariant-loop-email : goal.invariant-loop-email
invariant-loop-email l = l.numbers.items ≡ map placed_owner (take l.email-index l.placed)

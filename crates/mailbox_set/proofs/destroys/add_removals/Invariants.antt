use Rattle.std.proofs.Common.{◌≡◌, ◌++◌, take}
use Rattle.std.specs.List.{flat_map}
use Rattle.mail_records.specs.Contents.{email_at}
use Rattle.mailbox_set.specs.Destroys.{removal_at}
use Rattle.mailbox_set.proofs.destroys.add_removals.Given as goal

abbrev pub invariant-loop-number : goal.invariant-loop-number
invariant-loop-number l =
    l.edits.items ≡ l.initial.edits.items ++ flat_map (λ k. removal_at l.destroyed l.mailbox (email_at l.content.content k)) (take l.number-index l.numbers)

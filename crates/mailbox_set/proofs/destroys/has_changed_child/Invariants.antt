use Rattle.std.proofs.Common.{◌≡◌, Some, drop}
use Rattle.std.specs.List.{list_any}
use Rattle.mail_records.specs.declared.records.Mailbox.{Mailbox}
use Rattle.mail_counts.specs.Tidy.{same_parent}
use Rattle.mailbox_set.proofs.destroys.has_changed_child.Given as goal

abbrev pub invariant-loop-mailbox : goal.invariant-loop-mailbox
invariant-loop-mailbox l =
    list_any (λ (m : Mailbox). same_parent m.parent (Some l.number)) l.changed
    ≡ list_any (λ (m : Mailbox). same_parent m.parent (Some l.number)) (drop l.mailbox-index l.changed)

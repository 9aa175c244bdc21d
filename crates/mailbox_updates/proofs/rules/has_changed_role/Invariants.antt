use Rattle.std.proofs.Common.{◌≡◌, ◌&&◌, ◌==◌, Some, not, drop}
use Rattle.std.specs.List.{list_any}
use Rattle.mail_records.specs.declared.records.Mailbox.{Mailbox}
use Rattle.mail_counts.specs.Tidy.{same_role}
use Rattle.mailbox_updates.proofs.rules.has_changed_role.Given as goal

abbrev pub invariant-loop-other : goal.invariant-loop-other
invariant-loop-other l =
    list_any (λ (n : Mailbox). not (n.number == l.number) && same_role n.role (Some l.role)) l.changed
    ≡ list_any (λ (n : Mailbox). not (n.number == l.number) && same_role n.role (Some l.role)) (drop l.other-index l.changed)

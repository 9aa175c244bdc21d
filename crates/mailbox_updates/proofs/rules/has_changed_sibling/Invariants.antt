use Rattle.std.proofs.Common.{◌≡◌, ◌&&◌, drop}
use Rattle.std.specs.List.{list_any}
use Rattle.mail_records.specs.declared.records.Mailbox.{Mailbox}
use Rattle.mail_counts.specs.Tidy.{is_sibling}
use Rattle.mailbox_updates.specs.Updates.{is_another}
use Rattle.mailbox_updates.proofs.rules.has_changed_sibling.Given as goal

abbrev pub invariant-loop-other : goal.invariant-loop-other
invariant-loop-other l =
    list_any (λ (n : Mailbox). is_another l.mailbox n && is_sibling l.mailbox.parent l.mailbox.name n) l.changed
    ≡ list_any (λ (n : Mailbox). is_another l.mailbox n && is_sibling l.mailbox.parent l.mailbox.name n) (drop l.other-index l.changed)

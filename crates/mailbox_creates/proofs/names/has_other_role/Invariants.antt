use Rattle.std.proofs.Common.{◌≡◌, not, drop}
use Rattle.std.specs.List.{list_any}
use Rattle.mail_records.specs.declared.entries.Roled.{Roled}
use Rattle.mailbox_creates.specs.Views.{is_new}
use Rattle.mailbox_creates.proofs.names.has_other_role.Given as goal

abbrev pub invariant-loop-mailbox : goal.invariant-loop-mailbox
invariant-loop-mailbox l =
    list_any (λ (r : Roled). not (is_new l.first l.next r.mailbox)) l.mailboxes
    ≡ list_any (λ (r : Roled). not (is_new l.first l.next r.mailbox)) (drop l.mailbox-index l.mailboxes)

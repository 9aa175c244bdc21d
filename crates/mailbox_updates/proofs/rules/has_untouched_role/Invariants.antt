use Rattle.std.proofs.Common.{◌≡◌, ◌&&◌, ◌==◌, not, drop}
use Rattle.std.specs.List.{list_any}
use Rattle.mail_records.specs.declared.entries.Roled.{Roled}
use Rattle.mailbox_updates.specs.PresentMailboxes.{is_untouched}
use Rattle.mailbox_updates.proofs.rules.has_untouched_role.Given as goal

abbrev pub invariant-loop-mailbox : goal.invariant-loop-mailbox
invariant-loop-mailbox l =
    list_any (λ (r : Roled). is_untouched l.current.changed.rows l.current.destroyed.items r.mailbox && not (r.mailbox == l.number)) l.mailboxes
    ≡ list_any (λ (r : Roled). is_untouched l.current.changed.rows l.current.destroyed.items r.mailbox && not (r.mailbox == l.number)) (drop l.mailbox-index l.mailboxes)

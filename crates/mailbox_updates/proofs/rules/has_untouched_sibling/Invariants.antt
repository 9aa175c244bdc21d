use Rattle.std.proofs.Common.{◌≡◌, ◌&&◌, ◌==◌, not, drop}
use Rattle.std.specs.List.{list_any}
use Rattle.mail_records.specs.declared.entries.Named.{Named}
use Rattle.mailbox_updates.specs.PresentMailboxes.{is_untouched}
use Rattle.mailbox_updates.proofs.rules.has_untouched_sibling.Given as goal

abbrev pub invariant-loop-sibling : goal.invariant-loop-sibling
invariant-loop-sibling l =
    list_any (λ (n : Named). is_untouched l.current.changed.rows l.current.destroyed.items n.mailbox && not (n.mailbox == l.number)) l.siblings
    ≡ list_any (λ (n : Named). is_untouched l.current.changed.rows l.current.destroyed.items n.mailbox && not (n.mailbox == l.number)) (drop l.sibling-index l.siblings)

use Rattle.std.proofs.Common.{◌≡◌, drop}
use Rattle.std.specs.List.{list_any}
use Rattle.mail_records.specs.declared.entries.Named.{Named}
use Rattle.mailbox_updates.specs.PresentMailboxes.{is_untouched}
use Rattle.mailbox_set.proofs.destroys.has_untouched.Given as goal

abbrev pub invariant-loop-child : goal.invariant-loop-child
invariant-loop-child l =
    list_any (λ (n : Named). is_untouched l.current.changed.rows l.current.destroyed.items n.mailbox) l.children
    ≡ list_any (λ (n : Named). is_untouched l.current.changed.rows l.current.destroyed.items n.mailbox) (drop l.child-index l.children)

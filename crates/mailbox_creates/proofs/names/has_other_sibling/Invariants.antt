use Rattle.std.proofs.Common.{◌≡◌, not, drop}
use Rattle.std.specs.List.{list_any}
use Rattle.mail_records.specs.declared.entries.Named.{Named}
use Rattle.mailbox_creates.specs.Views.{is_new}
use Rattle.mailbox_creates.proofs.names.has_other_sibling.Given as goal

abbrev pub invariant-loop-sibling : goal.invariant-loop-sibling
invariant-loop-sibling l =
    list_any (λ (n : Named). not (is_new l.first l.next n.mailbox)) l.siblings
    ≡ list_any (λ (n : Named). not (is_new l.first l.next n.mailbox)) (drop l.sibling-index l.siblings)

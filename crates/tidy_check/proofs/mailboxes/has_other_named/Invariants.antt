use Rattle.std.proofs.Common.{◌≡◌, ◌==◌, drop, not}
use Rattle.std.specs.List.{list_any}
use Rattle.mail_records.specs.declared.entries.Named.{Named}
use Rattle.tidy_check.proofs.mailboxes.has_other_named.Given as goal

abbrev pub invariant-loop-sibling : goal.invariant-loop-sibling
invariant-loop-sibling l = list_any (λ (x : Named). not (x.mailbox == l.number)) (drop l.sibling-index l.siblings) ≡ list_any (λ (x : Named). not (x.mailbox == l.number)) l.siblings

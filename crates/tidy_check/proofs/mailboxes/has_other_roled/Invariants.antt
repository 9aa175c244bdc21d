use Rattle.std.proofs.Common.{◌≡◌, ◌==◌, drop, not}
use Rattle.std.specs.List.{list_any}
use Rattle.mail_records.specs.declared.entries.Roled.{Roled}
use Rattle.tidy_check.proofs.mailboxes.has_other_roled.Given as goal

abbrev pub invariant-loop-roled : goal.invariant-loop-roled
invariant-loop-roled l = list_any (λ (x : Roled). not (x.mailbox == l.number)) (drop l.roled-index l.mailboxes) ≡ list_any (λ (x : Roled). not (x.mailbox == l.number)) l.mailboxes

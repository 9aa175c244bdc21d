use Rattle.std.proofs.Common.{◌≡◌, ◌+◌, ◌≤◌, drop}
use Rattle.mail_records.specs.Edits.{email_puts}
use Rattle.mail_records.proofs.edits.count_email_puts.Given as goal

abbrev pub invariant-loop-edit : goal.invariant-loop-edit
invariant-loop-edit l = (l.count + email_puts (drop l.edit-index l.edits) ≡ email_puts l.edits) × (l.count ≤ l.edit-index)

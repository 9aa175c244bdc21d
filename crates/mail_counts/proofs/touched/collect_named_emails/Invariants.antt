use Rattle.std.proofs.Common.{◌≡◌, ◌++◌, drop}
use Rattle.mail_counts.specs.Overlay.{emails_named}
use Rattle.mail_counts.proofs.touched.collect_named_emails.Given as goal

abbrev pub invariant-loop-edit : goal.invariant-loop-edit
invariant-loop-edit l = l.emails.items ++ emails_named (drop l.edit-index l.edits) ≡ emails_named l.edits

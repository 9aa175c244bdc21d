use Rattle.std.proofs.Common.{◌≡◌, take}
use Rattle.mail_records.proofs.edits.collect_edit_copies.Given as goal

abbrev pub invariant-loop-edit : goal.invariant-loop-edit
invariant-loop-edit l = l.all.items ≡ take l.edit-index l.edits

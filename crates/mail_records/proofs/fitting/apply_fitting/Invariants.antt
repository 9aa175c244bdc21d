use Rattle.std.proofs.Common.{drop}
use Rattle.mail_records.proofs.EditSteps.{HasCome}
use Rattle.mail_records.proofs.fitting.apply_fitting.Given as goal

abbrev pub invariant-loop-edit : goal.invariant-loop-edit
invariant-loop-edit l = HasCome l.fn.content.content l.waiting.content l.edits (drop l.edit-index l.edits) l.keeps_threads

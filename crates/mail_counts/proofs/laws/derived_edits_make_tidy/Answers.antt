use Rattle.mail_records.specs.Edits.{after_edits}
use Rattle.mail_records.proofs.Growth.{AreTables-after_edits}
use Rattle.mail_counts.specs.Touched.{touched_threads}
use Rattle.mail_counts.proofs.Followed.{derived_flags, derived_leaves, derived_small}
use Rattle.mail_counts.proofs.Nothing.{none_derived}
use Rattle.mail_counts.proofs.TidyAgain.{made_tidy}
use Rattle.mail_counts.proofs.laws.derived_edits_make_tidy.Goals as goal

pub returns-clause-tidy : goal.returns-clause-tidy
returns-clause-tidy _c c edits tidy leave = made_tidy c edits tidy leave

pub returns-clause-small : goal.returns-clause-small
returns-clause-small _c c edits = derived_small c (after_edits c edits) (touched_threads edits)

pub returns-clause-emails : goal.returns-clause-emails
returns-clause-emails _c c edits = derived_leaves c (after_edits c edits) (touched_threads edits)

pub returns-clause-flags : goal.returns-clause-flags
returns-clause-flags _c c edits tables = derived_flags c (after_edits c edits) (touched_threads edits) (AreTables-after_edits edits c tables).mailboxes

pub returns-clause-none : goal.returns-clause-none
returns-clause-none _c c edits leave = none_derived c edits leave

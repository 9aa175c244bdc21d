use Rattle.keep_sqlite.proofs.Removing.{deletes}
use Rattle.keep_sqlite.proofs.tables.delete_all.Goals as goal

pub returns-clause-told : goal.returns-clause-told
returns-clause-told g c clean inside k shows = deletes _ _ k c.in_ok-execute.field-0 shows (c.in_ok-execute.ensures.runs clean inside)

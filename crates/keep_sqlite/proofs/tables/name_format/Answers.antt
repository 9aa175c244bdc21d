use Rattle.keep_sqlite.proofs.Making.{names_it}
use Rattle.keep_sqlite.proofs.tables.name_format.Goals as goal

pub returns-clause-told : goal.returns-clause-told
returns-clause-told g c clean inside has = names_it _ _ c.in_ok-execute.field-0 has (c.in_ok-execute.ensures.runs clean inside)

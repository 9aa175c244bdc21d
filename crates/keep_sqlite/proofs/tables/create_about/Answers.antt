use Rattle.keep_sqlite.proofs.Making.{creates_about}
use Rattle.keep_sqlite.proofs.tables.create_about.Goals as goal

pub returns-clause-staged : goal.returns-clause-staged
returns-clause-staged g c clean inside has = creates_about _ _ c.in_ok-execute.field-0 has (c.in_ok-execute.ensures.runs clean inside)

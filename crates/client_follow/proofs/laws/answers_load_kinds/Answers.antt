use Rattle.client_follow.proofs.Answered.{loads_answered, records_answered, threads_answered}
use Rattle.client_follow.proofs.laws.answers_load_kinds.Goals as goal

pub returns-clause-results : goal.returns-clause-results
returns-clause-results c = loads_answered

pub returns-clause-records : goal.returns-clause-records
returns-clause-records c = records_answered

pub returns-clause-threads : goal.returns-clause-threads
returns-clause-threads c = threads_answered

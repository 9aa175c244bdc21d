use Rattle.client_follow.proofs.Keeping.{changes_keep, deltas_keep, errors_keep, gets_keep, lists_keep, loads_keep, records_kept, threads_kept}
use Rattle.client_follow.proofs.laws.answers_keep_what_the_history_has.Goals as goal

pub returns-clause-changes : goal.returns-clause-changes
returns-clause-changes c = changes_keep

pub returns-clause-gets : goal.returns-clause-gets
returns-clause-gets c = gets_keep

pub returns-clause-results : goal.returns-clause-results
returns-clause-results c = loads_keep

pub returns-clause-records : goal.returns-clause-records
returns-clause-records c = records_kept

pub returns-clause-threads : goal.returns-clause-threads
returns-clause-threads c = threads_kept

pub returns-clause-lists : goal.returns-clause-lists
returns-clause-lists c = lists_keep

pub returns-clause-deltas : goal.returns-clause-deltas
returns-clause-deltas c = deltas_keep

pub returns-clause-errors : goal.returns-clause-errors
returns-clause-errors c = errors_keep

use Rattle.reply_readers.proofs.ReadBacks.{deltas_read_back, pages_read_back, results_read_back}
use Rattle.reply_readers.proofs.laws.show_that_written_responses_are_read.Goals as goal

pub returns-clause-pages : goal.returns-clause-pages
returns-clause-pages c = pages_read_back

pub returns-clause-deltas : goal.returns-clause-deltas
returns-clause-deltas c = deltas_read_back

pub returns-clause-results : goal.returns-clause-results
returns-clause-results c = results_read_back

use Rattle.email_set.proofs.WrittenFilings.{read_back, written}
use Rattle.email_set.proofs.laws.show_that_written_filings_are_read.Goals as goal

pub returns-clause-read : goal.returns-clause-read
returns-clause-read c = read_back

pub returns-clause-written : goal.returns-clause-written
returns-clause-written c = written

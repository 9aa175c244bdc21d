use Rattle.client_follow.proofs.LoadsRead.{loads_are_read, loads_name_all}
use Rattle.client_follow.proofs.laws.loads_are_read_as_all_records.Goals as goal

pub returns-clause-read : goal.returns-clause-read
returns-clause-read c = loads_are_read

pub returns-clause-all : goal.returns-clause-all
returns-clause-all c = loads_name_all

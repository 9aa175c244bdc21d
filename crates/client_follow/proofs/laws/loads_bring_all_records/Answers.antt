use Rattle.client_follow.proofs.Between.{loads_arrive, loads_start}
use Rattle.client_follow.proofs.laws.loads_bring_all_records.Goals as goal

pub returns-clause-starts : goal.returns-clause-starts
returns-clause-starts c = loads_start

pub returns-clause-arrives : goal.returns-clause-arrives
returns-clause-arrives c = loads_arrive

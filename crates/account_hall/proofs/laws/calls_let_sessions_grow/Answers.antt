use Rattle.account_hall.proofs.Growing.{grown_called, grown_looked, grown_on}
use Rattle.account_hall.proofs.laws.calls_let_sessions_grow.Goals as goal

pub returns-clause-calls : goal.returns-clause-calls
returns-clause-calls c = grown_called

pub returns-clause-looks : goal.returns-clause-looks
returns-clause-looks c = grown_looked

pub returns-clause-on : goal.returns-clause-on
returns-clause-on c = grown_on

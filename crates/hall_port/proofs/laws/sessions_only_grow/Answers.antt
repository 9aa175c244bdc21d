use Rattle.hall_port.proofs.Grown.{grown_answered, grown_begun, grown_by_lines, grown_halted, grown_read, grown_served, grown_stopped, grown_told, grown_uploaded}
use Rattle.hall_port.proofs.laws.sessions_only_grow.Goals as goal

pub returns-clause-begins : goal.returns-clause-begins
returns-clause-begins g c = grown_begun

pub returns-clause-calls : goal.returns-clause-calls
returns-clause-calls g c = grown_answered g.R.Rules.plan_of

pub returns-clause-stops : goal.returns-clause-stops
returns-clause-stops g c = grown_stopped g.R.Rules.plan_of

pub returns-clause-uploads : goal.returns-clause-uploads
returns-clause-uploads g c = grown_uploaded g.R.Rules.plan_of

pub returns-clause-reads : goal.returns-clause-reads
returns-clause-reads g c = grown_read g.R.Rules.plan_of

pub returns-clause-states : goal.returns-clause-states
returns-clause-states g c = grown_told g.R.Rules.plan_of

pub returns-clause-halts : goal.returns-clause-halts
returns-clause-halts g c = grown_halted

pub returns-clause-connections : goal.returns-clause-connections
returns-clause-connections g c = grown_served g.R.Rules.plan_of

pub returns-clause-lines : goal.returns-clause-lines
returns-clause-lines g c = grown_by_lines g.R.Rules.plan_of

use Rattle.hall_port.proofs.ReadSingly.{replied_next}
use Rattle.hall_port.proofs.laws.single_reads_are_replied_at_points.Goals as goal

pub returns : goal.returns
returns g c = replied_next g.R.Rules.plan_of

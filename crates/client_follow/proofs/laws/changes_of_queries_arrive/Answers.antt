use Rattle.client_follow.proofs.Deltas.{deltas_arrive}
use Rattle.client_follow.proofs.laws.changes_of_queries_arrive.Goals as goal

pub returns : goal.returns
returns c = deltas_arrive

use Rattle.query_engine.proofs.Collapsed.{collapsing}
use Rattle.query_engine.proofs.laws.collapsing_keeps_the_first_of_a_thread.Goals as goal

pub returns : goal.returns
returns c = collapsing

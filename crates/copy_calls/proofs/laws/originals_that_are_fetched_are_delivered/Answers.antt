use Rattle.copy_calls.proofs.Kept.{delivered}
use Rattle.copy_calls.proofs.laws.originals_that_are_fetched_are_delivered.Goals as goal

pub returns : goal.returns
returns c = delivered

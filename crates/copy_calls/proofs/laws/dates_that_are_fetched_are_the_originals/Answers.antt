use Rattle.copy_calls.proofs.KeptDates.{dates_kept}
use Rattle.copy_calls.proofs.laws.dates_that_are_fetched_are_the_originals.Goals as goal

pub returns : goal.returns
returns c = dates_kept

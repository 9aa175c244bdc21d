use Rattle.copy_calls.proofs.Kept.{keywords_kept}
use Rattle.copy_calls.proofs.laws.keywords_that_are_fetched_are_the_originals.Goals as goal

pub returns : goal.returns
returns c = keywords_kept

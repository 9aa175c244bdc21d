use Rattle.mail_counts.proofs.StateAfter.{state_of-grown}
use Rattle.mail_counts.proofs.laws.state_after_edits_is_that_of_the_grown_history.Goals as goal

pub returns : goal.returns
returns c = state_of-grown

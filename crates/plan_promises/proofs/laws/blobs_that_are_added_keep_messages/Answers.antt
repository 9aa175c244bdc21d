use Rattle.plan_promises.proofs.Planned.{HasMessage-more}
use Rattle.plan_promises.proofs.laws.blobs_that_are_added_keep_messages.Goals as goal

pub returns : goal.returns
returns c = HasMessage-more

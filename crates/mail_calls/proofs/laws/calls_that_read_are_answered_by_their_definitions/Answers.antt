use Rattle.mail_calls.proofs.ReadPlans.{plans_reads}
use Rattle.mail_calls.proofs.laws.calls_that_read_are_answered_by_their_definitions.Goals as goal

pub returns : goal.returns
returns c = plans_reads

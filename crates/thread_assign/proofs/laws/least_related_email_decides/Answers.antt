use Rattle.thread_assign.proofs.laws.least_related_email_decides.Goals as goal
use Rattle.thread_assign.proofs.Related.{alone, begins, decided, joined, order}

pub returns : goal.returns
returns c = record { decided = decided; joined = joined; alone = alone; begins = begins; order = order }

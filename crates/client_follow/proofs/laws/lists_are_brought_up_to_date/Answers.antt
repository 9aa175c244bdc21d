use Rattle.client_follow.proofs.DeltasRead.{deltas_are_read, lists_are_brought}
use Rattle.client_follow.proofs.laws.lists_are_brought_up_to_date.Goals as goal

pub returns-clause-read : goal.returns-clause-read
returns-clause-read c = deltas_are_read

pub returns-clause-brought : goal.returns-clause-brought
returns-clause-brought c = lists_are_brought

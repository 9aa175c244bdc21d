use Rattle.account_hall.proofs.Standing.{answered_in}
use Rattle.account_hall.proofs.laws.answers_stand_in_closed_accounts.Goals as goal

pub returns : goal.returns
returns c = answered_in

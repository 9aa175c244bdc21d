use Rattle.account_book.proofs.KeptHistories.{left_after}
use Rattle.account_book.proofs.laws.crashes_leave_one_asked_commit.Goals as goal

pub returns : goal.returns
returns g c = left_after g.K.Keeper.image

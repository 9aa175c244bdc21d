use Rattle.account_hall.proofs.Gaps.{no_gap}
use Rattle.account_hall.proofs.laws.lone_sessions_leave_no_gap.Goals as goal

pub returns : goal.returns
returns c = no_gap

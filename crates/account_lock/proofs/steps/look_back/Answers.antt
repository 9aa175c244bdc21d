use Rattle.std.proofs.Common.{rules}
use Rattle.account_lock.proofs.Turning.{looks_back}
use Rattle.account_lock.proofs.steps.look_back.Goals as goal

pub load-requires : goal.load-requires
load-requires g c = (search rules, search rules, looks_back _ _ _ _ _ _)

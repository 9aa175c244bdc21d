use Rattle.std.proofs.Common.{rules}
use Rattle.account_lock.proofs.Naming.{splits}
use Rattle.account_lock.proofs.lock.AccountLock.split.Goals as goal

pub split_seat-new-requires : goal.split_seat-new-requires
split_seat-new-requires g c = (search rules, search rules, splits _ _ _ _ _ (search rules) (search rules))

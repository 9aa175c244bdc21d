use Rattle.std.proofs.Common.{rules}
use Rattle.account_lock.proofs.Turning.{takes_empty_at, passes_on_at}
use Rattle.account_lock.proofs.steps.lay_back.Goals as goal

pub load-requires : goal.load-requires
load-requires g c = (search rules, search rules, takes_empty_at _ _ _ _ _ _ (search rules) (search rules))

pub fetch_add-served-requires : goal.fetch_add-served-requires
fetch_add-served-requires g c = (search rules, search rules, passes_on_at _ _ _ _ _ _ c.args.value (search rules) (search rules) (search rules) (search rules) (search rules))

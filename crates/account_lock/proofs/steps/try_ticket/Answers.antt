use Rattle.std.proofs.Common.{rules}
use Rattle.account_lock.proofs.Turning.{tries}
use Rattle.account_lock.proofs.steps.try_ticket.Goals as goal

pub compare_exchange-requires : goal.compare_exchange-requires
compare_exchange-requires g c = (search rules, search rules, tries _ _ _ _ _ _ _ c.args.found (search rules) (search rules))

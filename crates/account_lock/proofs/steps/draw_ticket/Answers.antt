use Rattle.std.proofs.Common.{rules}
use Rattle.account_lock.proofs.Turning.{draws}
use Rattle.account_lock.proofs.steps.draw_ticket.Goals as goal

pub fetch_add-requires : goal.fetch_add-requires
fetch_add-requires g c = (search rules, search rules, draws _ _ _ _ _ _ _ (search rules) (search rules))

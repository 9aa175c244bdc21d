use Rattle.std.proofs.Common.{rules, ◌+◌, ◌%◌, ◌^◌, max}
use Rattle.account_lock.proofs.Turning.{counts_parked}
use Rattle.account_lock.proofs.steps.park.Goals as goal

pub fetch_max-requires : goal.fetch_max-requires
fetch_max-requires g c = (search rules, search rules, counts_parked _ _ _ _ _ _ (λ n. max n ((c.args.found + 1) % 2 ^ 64)))

use Rattle.std.proofs.Common.{◌≡◌, vec_len}
use Rattle.std.specs.List.{AllByRecursion}
use Rattle.account_hall.specs.Building.{IsFresh}
use Rattle.measure_halls.proofs.accounts.open_accounts.Given as goal

abbrev pub invariant-loop-number : goal.invariant-loop-number
invariant-loop-number l = AllByRecursion IsFresh l.accounts.items × (vec_len l.accounts ≡ l.number)

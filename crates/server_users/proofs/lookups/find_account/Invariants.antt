use Rattle.std.proofs.Common.{◌≡◌, length}
use Rattle.server_users.specs.Lookups.{account_with}
use Rattle.server_users.proofs.lookups.find_account.Given as goal

abbrev pub invariant-account : goal.invariant-account
invariant-account l = account_with l.id l.rest ≡ account_with l.id l.accounts

abbrev pub decreases-account : goal.decreases-account
decreases-account l = length l.rest

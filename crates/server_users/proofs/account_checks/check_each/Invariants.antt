use Rattle.std.proofs.Common.{◌≡◌, ◌+◌, [], length, map}
use Rattle.jm_json.specs.Json.{tree_of}
use Rattle.server_users.specs.BadPlaces.{accounts_places}
use Rattle.jm_json.specs.LeastPlaces.{least_from}
use Rattle.server_users.specs.Lookups.{holds}
use Rattle.server_users.proofs.Walks.{AccountWalk}
use Rattle.server_users.proofs.account_checks.check_each.Given as goal

abbrev pub invariant-account : goal.invariant-account
invariant-account l = record {
  walk : AccountWalk l.ids l.user (least_from l.fn.least (accounts_places l.ids l.user [] (map tree_of l.accounts))) (holds l.seen) l.index l.least (map tree_of l.rest);
  within : l.index + length l.rest ≡ length l.accounts;
}

abbrev pub decreases-account : goal.decreases-account
decreases-account l = length l.rest

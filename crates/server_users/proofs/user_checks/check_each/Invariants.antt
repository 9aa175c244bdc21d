use Rattle.std.proofs.Common.{◌≡◌, ◌+◌, [], length, map}
use Rattle.jm_json.specs.Json.{tree_of}
use Rattle.server_users.specs.BadPlaces.{users_places}
use Rattle.jm_json.specs.LeastPlaces.{least_from}
use Rattle.server_users.specs.Lookups.{holds}
use Rattle.server_users.proofs.Walks.{UserWalk}
use Rattle.server_users.proofs.user_checks.check_each.Given as goal

abbrev pub invariant-user : goal.invariant-user
invariant-user l = record {
  walk : UserWalk l.ids (least_from l.fn.least (users_places l.ids [] (map tree_of l.users))) (holds l.names) (holds l.tokens) l.index l.least (map tree_of l.rest);
  within : l.index + length l.rest ≡ length l.users;
}

abbrev pub decreases-user : goal.decreases-user
decreases-user l = length l.rest

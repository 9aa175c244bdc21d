use Rattle.std.proofs.Common.{◌≡◌, map, drop}
use Rattle.std.specs.List.{list_all}
use Rattle.jm_json.specs.Json.{tree_of}
use Rattle.server_users.specs.BadPlaces.{has_no_account}
use Rattle.server_users.proofs.user_checks.have_no_account.Given as goal

abbrev pub invariant-loop-user : goal.invariant-loop-user
invariant-loop-user l = list_all has_no_account (map tree_of l.users) ≡ list_all has_no_account (map tree_of (drop l.user-index l.users))

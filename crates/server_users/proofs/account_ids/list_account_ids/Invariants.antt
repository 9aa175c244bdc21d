use Rattle.std.proofs.Common.{◌≡◌, [], map, drop}
use Rattle.std.specs.List.{fold}
use Rattle.jm_json.specs.Json.{tree_of}
use Rattle.server_users.specs.Configuration.{with_mentions}
use Rattle.server_users.proofs.account_ids.list_account_ids.Given as goal

abbrev pub invariant-loop-user : goal.invariant-loop-user
invariant-loop-user l = fold with_mentions l.ids (map tree_of (drop l.user-index l.users)) ≡ fold with_mentions [] (map tree_of l.users)

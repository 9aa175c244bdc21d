use Rattle.std.proofs.Common.{◌≡◌, map, drop}
use Rattle.std.specs.List.{fold}
use Rattle.jm_json.specs.Json.{tree_of}
use Rattle.server_users.specs.Configuration.{with_mention}
use Rattle.server_users.proofs.account_ids.add_mentions.Given as goal

abbrev pub invariant-loop-account : goal.invariant-loop-account
invariant-loop-account l = fold with_mention l.ids (map tree_of (drop l.account-index l.accounts)) ≡ fold with_mention l.initial.ids (map tree_of l.accounts)

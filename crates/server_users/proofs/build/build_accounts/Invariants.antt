use Rattle.std.proofs.Common.{◌≡◌, ◌++◌, map, drop}
use Rattle.jm_json.specs.Json.{tree_of}
use Rattle.server_users.specs.Configuration.{account_in}
use Rattle.server_users.proofs.build.build_accounts.Given as goal

abbrev pub invariant-loop-tree : goal.invariant-loop-tree
invariant-loop-tree l = l.accounts ++ map (account_in l.ids) (map tree_of (drop l.tree-index l.trees)) ≡ map (account_in l.ids) (map tree_of l.trees)

use Rattle.std.proofs.Common.{◌≡◌, ◌++◌, map, drop}
use Rattle.jm_json.specs.Json.{tree_of}
use Rattle.server_users.specs.Configuration.{user_in}
use Rattle.server_users.proofs.build.build_each.Given as goal

abbrev pub invariant-loop-tree : goal.invariant-loop-tree
invariant-loop-tree l = l.users ++ map (user_in l.ids) (map tree_of (drop l.tree-index l.trees)) ≡ map (user_in l.ids) (map tree_of l.trees)

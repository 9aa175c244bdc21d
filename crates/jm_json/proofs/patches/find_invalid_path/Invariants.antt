use Rattle.std.proofs.Common.{◌≡◌, map, drop}
use Rattle.jm_json.specs.Json.{tree_of, member_of}
use Rattle.jm_json.specs.Patch.{first_invalid_path}
use Rattle.jm_json.proofs.patches.find_invalid_path.Given as goal

abbrev pub invariant-loop-change : goal.invariant-loop-change
invariant-loop-change l =
    first_invalid_path (map member_of l.changes) (map member_of l.changes) (tree_of l.tree)
    ≡ first_invalid_path (map member_of (drop l.change-index l.changes)) (map member_of l.changes) (tree_of l.tree)

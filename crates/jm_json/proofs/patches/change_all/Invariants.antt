use Rattle.std.proofs.Common.{◌≡◌, map, drop}
use Rattle.jm_json.specs.Json.{tree_of, member_of}
use Rattle.jm_json.specs.Patch.{all_changed}
use Rattle.jm_json.proofs.patches.change_all.Given as goal

abbrev pub invariant-loop-member : goal.invariant-loop-member
invariant-loop-member l =
    all_changed (map member_of l.changes) (tree_of l.initial.tree) ≡ all_changed (map member_of (drop l.member-index l.changes)) (tree_of l.tree)

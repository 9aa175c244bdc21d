use Rattle.std.proofs.Common.{◌≡◌, map, min, ◌+◌, ◌-◌, ◌*◌, ◌^◌, take}
use Rattle.jm_json.specs.Tree.{trees_of, fields_of}
use Rattle.jm_json.specs.Size.{size_of, trees_size, fields_size}
use Rattle.jm_json.specs.Json.{tree_of, member_of}
use Rattle.jm_json.specs.Depth.{trees_depth, fields_depth}
use Rattle.jm_json.proofs.tree_depth.+depths.Given as goal

abbrev pub decreases-measure_depth : goal.decreases-measure_depth
decreases-measure_depth l = 2 * size_of (tree_of l.tree.now)

abbrev pub decreases-measure_items : goal.decreases-measure_items
decreases-measure_items l = 2 * trees_size (trees_of (map tree_of l.items.now)) + 1

abbrev pub decreases-measure_members : goal.decreases-measure_members
decreases-measure_members l = 2 * fields_size (fields_of (map member_of l.members.now)) + 1

abbrev pub invariant-measure_items-loop-item : goal.invariant-measure_items-loop-item
invariant-measure_items-loop-item l = l.deepest ≡ min (trees_depth (trees_of (map tree_of (take l.item-index l.items)))) (2 ^ 64 - 1)

abbrev pub invariant-measure_members-loop-member : goal.invariant-measure_members-loop-member
invariant-measure_members-loop-member l = l.deepest ≡ min (fields_depth (fields_of (map member_of (take l.member-index l.members)))) (2 ^ 64 - 1)

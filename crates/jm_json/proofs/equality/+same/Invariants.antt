use Rattle.std.proofs.Common.{◌≡◌, map, ◌+◌, ◌*◌, drop}
use Rattle.jm_json.specs.Tree.{trees_of, fields_of}
use Rattle.jm_json.specs.Size.{size_of, trees_size, fields_size}
use Rattle.jm_json.specs.Json.{tree_of, member_of}
use Rattle.jm_json.specs.Equality.{are_same_fields, are_same_trees}
use Rattle.jm_json.proofs.equality.+same.Given as goal

abbrev pub decreases-is_same : goal.decreases-is_same
decreases-is_same l = 4 * size_of (tree_of l.left.now)

abbrev pub decreases-is_list : goal.decreases-is_list
decreases-is_list l = 4 * trees_size (trees_of (map tree_of l.items.now)) + 2

abbrev pub decreases-is_object : goal.decreases-is_object
decreases-is_object l = 4 * fields_size (fields_of (map member_of l.members.now)) + 3

abbrev pub decreases-are_same_items : goal.decreases-are_same_items
decreases-are_same_items l = 4 * trees_size (trees_of (map tree_of l.left.now)) + 1

abbrev pub decreases-are_same_members : goal.decreases-are_same_members
decreases-are_same_members l = 4 * fields_size (fields_of (map member_of l.left.now)) + 2

abbrev pub invariant-are_same_items-loop-i : goal.invariant-are_same_items-loop-i
invariant-are_same_items-loop-i l =
    are_same_trees (trees_of (map tree_of l.left)) (trees_of (map tree_of l.right)) ≡ are_same_trees (trees_of (map tree_of (drop l.i l.left))) (trees_of (map tree_of (drop l.i l.right)))

abbrev pub invariant-are_same_members-loop-i : goal.invariant-are_same_members-loop-i
invariant-are_same_members-loop-i l =
    are_same_fields (fields_of (map member_of l.left)) (fields_of (map member_of l.right)) ≡ are_same_fields (fields_of (map member_of (drop l.i l.left))) (fields_of (map member_of (drop l.i l.right)))

abbrev pub decreases-is_same_member : goal.decreases-is_same_member
decreases-is_same_member l = 4 * size_of (tree_of l.left.now.value) + 1

use Rattle.std.proofs.Common.{◌≡◌, ◌+◌, ◌*◌, map, drop}
use Rattle.jm_json.specs.Tree.{trees_of, fields_of}
use Rattle.jm_json.specs.Size.{size_of, trees_size, fields_size}
use Rattle.jm_json.specs.Json.{tree_of, member_of}
use Rattle.filter_terms.specs.ThreadScope.{conditions_wide, items_wide}
use Rattle.filter_terms.proofs.thread_scope.+wide.Given as goal

abbrev pub decreases-is_wide_tree : goal.decreases-is_wide_tree
decreases-is_wide_tree l = 4 * size_of (tree_of l.tree.now)

abbrev pub decreases-is_wide_object : goal.decreases-is_wide_object
decreases-is_wide_object l = 4 * fields_size (fields_of l.members.now) + 3

abbrev pub decreases-has_wide_conditions : goal.decreases-has_wide_conditions
decreases-has_wide_conditions l = 4 * fields_size (fields_of (map member_of l.members.now)) + 2

abbrev pub decreases-list_wide : goal.decreases-list_wide
decreases-list_wide l = 4 * size_of (tree_of l.value.now) + 1

abbrev pub decreases-has_wide_item : goal.decreases-has_wide_item
decreases-has_wide_item l = 4 * trees_size (trees_of (map tree_of l.items.now)) + 2

abbrev pub invariant-has_wide_conditions-loop-member : goal.invariant-has_wide_conditions-loop-member
invariant-has_wide_conditions-loop-member l = conditions_wide l.kind (fields_of (map member_of (drop l.member-index l.members))) ≡ conditions_wide l.kind (fields_of (map member_of l.members))

abbrev pub invariant-has_wide_item-loop-item : goal.invariant-has_wide_item-loop-item
invariant-has_wide_item-loop-item l = items_wide l.kind (trees_of (map tree_of (drop l.item-index l.items))) ≡ items_wide l.kind (trees_of (map tree_of l.items))

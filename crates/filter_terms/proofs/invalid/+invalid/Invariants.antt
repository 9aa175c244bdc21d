use Rattle.std.proofs.Common.{◌≡◌, ◌+◌, ◌*◌, map, drop}
use Rattle.jm_json.specs.Tree.{trees_of, fields_of}
use Rattle.jm_json.specs.Size.{size_of, trees_size, fields_size}
use Rattle.jm_json.specs.Json.{tree_of, member_of}
use Rattle.filter_terms.specs.Forms.{invalid_conditions, invalid_items}
use Rattle.filter_terms.proofs.invalid.+invalid.Given as goal

abbrev pub decreases-find_invalid_name : goal.decreases-find_invalid_name
decreases-find_invalid_name l = 4 * size_of (tree_of l.tree.now)

abbrev pub decreases-find_invalid_in_object : goal.decreases-find_invalid_in_object
decreases-find_invalid_in_object l = 4 * fields_size (fields_of l.members.now) + 3

abbrev pub decreases-find_invalid_in_conditions : goal.decreases-find_invalid_in_conditions
decreases-find_invalid_in_conditions l = 4 * fields_size (fields_of (map member_of l.members.now)) + 2

abbrev pub decreases-find_invalid_in_list : goal.decreases-find_invalid_in_list
decreases-find_invalid_in_list l = 4 * size_of (tree_of l.value.now) + 1

abbrev pub decreases-find_invalid_in_items : goal.decreases-find_invalid_in_items
decreases-find_invalid_in_items l = 4 * trees_size (trees_of (map tree_of l.items.now)) + 2

abbrev pub invariant-find_invalid_in_conditions-loop-member : goal.invariant-find_invalid_in_conditions-loop-member
invariant-find_invalid_in_conditions-loop-member l = invalid_conditions l.kind (fields_of (map member_of (drop l.member-index l.members))) ≡ invalid_conditions l.kind (fields_of (map member_of l.members))

abbrev pub invariant-find_invalid_in_items-loop-item : goal.invariant-find_invalid_in_items-loop-item
invariant-find_invalid_in_items-loop-item l = invalid_items l.kind (trees_of (map tree_of (drop l.item-index l.items))) ≡ invalid_items l.kind (trees_of (map tree_of l.items))

use Rattle.std.proofs.Common.{◌≡◌, map, ◌+◌, ◌*◌, take}
use Rattle.jm_json.specs.Tree.{trees_of, fields_of}
use Rattle.jm_json.specs.Size.{size_of, trees_size, fields_size}
use Rattle.jm_json.specs.Json.{tree_of, member_of}
use Rattle.jm_json.proofs.copies.+copies.Given as goal

abbrev pub decreases-copy : goal.decreases-copy
decreases-copy l = 2 * size_of (tree_of l.tree.now)

abbrev pub decreases-copy_items : goal.decreases-copy_items
decreases-copy_items l = 2 * trees_size (trees_of (map tree_of l.items.now)) + 1

abbrev pub decreases-copy_members : goal.decreases-copy_members
decreases-copy_members l = 2 * fields_size (fields_of (map member_of l.members.now)) + 1

abbrev pub invariant-copy_items-loop-item : goal.invariant-copy_items-loop-item
invariant-copy_items-loop-item l = l.copies ≡ map tree_of (take l.item-index l.items)

abbrev pub invariant-copy_members-loop-member : goal.invariant-copy_members-loop-member
invariant-copy_members-loop-member l = l.copies ≡ map member_of (take l.member-index l.members)

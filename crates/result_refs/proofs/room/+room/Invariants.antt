use Rattle.std.proofs.Common.{◌≡◌, map, ◌+◌, ◌*◌, drop}
use Rattle.jm_json.specs.Tree.{trees_of, fields_of}
use Rattle.jm_json.specs.Size.{size_of, trees_size, fields_size}
use Rattle.jm_json.specs.Json.{tree_of, member_of}
use Rattle.result_refs.specs.Room.{items_bytes, members_bytes}
use Rattle.result_refs.proofs.room.+room.Given as goal

abbrev pub decreases-compute_room_after : goal.decreases-compute_room_after
decreases-compute_room_after l = 2 * size_of (tree_of l.tree.now)

abbrev pub decreases-compute_room_after_items : goal.decreases-compute_room_after_items
decreases-compute_room_after_items l = 2 * trees_size (trees_of (map tree_of l.items.now)) + 1

abbrev pub decreases-compute_room_after_members : goal.decreases-compute_room_after_members
decreases-compute_room_after_members l = 2 * fields_size (fields_of (map member_of l.members.now)) + 1

abbrev pub invariant-compute_room_after_items-loop-item : goal.invariant-compute_room_after_items-loop-item
invariant-compute_room_after_items-loop-item l =
    l.left + items_bytes (trees_of (map tree_of l.items)) ≡ l.room + items_bytes (trees_of (map tree_of (drop l.item-index l.items)))

abbrev pub invariant-compute_room_after_members-loop-member : goal.invariant-compute_room_after_members-loop-member
invariant-compute_room_after_members-loop-member l =
    l.left + members_bytes (fields_of (map member_of l.members)) ≡ l.room + members_bytes (fields_of (map member_of (drop l.member-index l.members)))

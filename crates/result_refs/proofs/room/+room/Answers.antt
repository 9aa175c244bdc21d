use Rattle.std.proofs.Common.{sym, arith}
use Rattle.jm_json.proofs.Sizes.{item_size, member_size}
use Rattle.result_refs.proofs.room.+room.Goals as goal

pub compute_room_after_items-compute_room_after-requires : goal.compute_room_after_items-compute_room_after-requires
compute_room_after_items-compute_room_after-requires t c =
    let h = item_size c.args.items.now c.loop-item.item-index c.item-item.result (omega arith) in
    omega (arith, rw (sym c.item-item.is) at h, c.decreases)

pub compute_room_after_members-compute_room_after-requires : goal.compute_room_after_members-compute_room_after-requires
compute_room_after_members-compute_room_after-requires t c =
    let h = member_size c.args.members.now c.loop-member.member-index c.member-item.result (omega arith) in
    omega (arith, rw (sym c.member-item.is) at h, c.decreases)

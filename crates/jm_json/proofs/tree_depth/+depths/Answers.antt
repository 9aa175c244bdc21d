use Rattle.std.proofs.Common.{sym, arith}
use Rattle.jm_json.proofs.Sizes.{item_size, member_size}
use Rattle.jm_json.proofs.Nesting.{item_next, member_next}
use Rattle.jm_json.proofs.tree_depth.+depths.Goals as goal

pub measure_items-measure_depth-requires : goal.measure_items-measure_depth-requires
measure_items-measure_depth-requires t c =
    let h = item_size c.args.items.now c.loop-item.item-index c.item-item.result (omega arith) in
    (omega (arith, rw (sym c.item-item.is) at h, c.decreases), tt)

pub measure_members-measure_depth-requires : goal.measure_members-measure_depth-requires
measure_members-measure_depth-requires t c =
    let h = member_size c.args.members.now c.loop-member.member-index c.member-item.result (omega arith) in
    (omega (arith, rw (sym c.member-item.is) at h, c.decreases), tt)

pub measure_items-loop-item-preserved : goal.measure_items-loop-item-preserved
measure_items-loop-item-preserved t c =
    let h = item_next c.args.items.now c.loop-item.item-index c.item-item.result (omega arith) in
    omega (arith, c.max-deepest.ensures, c.measure_depth.ensures, c.loop-item.invariant, rw (sym c.item-item.is) at h)

pub measure_members-loop-member-preserved : goal.measure_members-loop-member-preserved
measure_members-loop-member-preserved t c =
    let h = member_next c.args.members.now c.loop-member.member-index c.member-item.result (omega arith) in
    omega (arith, c.max-deepest.ensures, c.measure_depth.ensures, c.loop-member.invariant, rw (sym c.member-item.is) at h)

use Rattle.std.proofs.Common.{arith, sym}
use Rattle.jm_json.proofs.Sizes.{item_size, member_size}
use Rattle.filter_terms.proofs.thread_scope.+wide.Goals as goal

pub has_wide_conditions-list_wide-requires : goal.has_wide_conditions-list_wide-requires
has_wide_conditions-list_wide-requires t c =
    let h = member_size c.args.members.now c.loop-member.member-index c.member-item.result (omega arith) in
    (omega (arith, rw (sym c.member-item.is) at h, c.decreases), tt)

pub has_wide_item-is_wide_tree-requires : goal.has_wide_item-is_wide_tree-requires
has_wide_item-is_wide_tree-requires t c =
    let h = item_size c.args.items.now c.loop-item.item-index c.item-item.result (omega arith) in
    (omega (arith, rw (sym c.item-item.is) at h, c.decreases), tt)

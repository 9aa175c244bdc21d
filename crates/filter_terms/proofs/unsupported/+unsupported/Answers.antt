use Rattle.std.proofs.Common.{arith, sym}
use Rattle.jm_json.proofs.Sizes.{item_size, member_size}
use Rattle.filter_terms.proofs.unsupported.+unsupported.Goals as goal

pub find_unsupported_in_members-find_unsupported_in_member-requires : goal.find_unsupported_in_members-find_unsupported_in_member-requires
find_unsupported_in_members-find_unsupported_in_member-requires t c =
    let h = member_size c.args.members.now c.loop-member.member-index c.member-item.result (omega arith) in
    (omega (arith, rw (sym c.member-item.is) at h, c.decreases), tt)

pub find_unsupported_in_items-find_unsupported_name-requires : goal.find_unsupported_in_items-find_unsupported_name-requires
find_unsupported_in_items-find_unsupported_name-requires t c =
    let h = item_size c.args.items.now c.loop-item.item-index c.item-item.result (omega arith) in
    (omega (arith, rw (sym c.item-item.is) at h, c.decreases), tt)

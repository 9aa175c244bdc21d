use Rattle.std.proofs.Common.{arith, sym}
use Rattle.jm_json.proofs.Sizes.{item_size, member_size}
use Rattle.filter_terms.proofs.invalid.+invalid.Goals as goal

pub find_invalid_in_conditions-find_invalid_in_list-requires : goal.find_invalid_in_conditions-find_invalid_in_list-requires
find_invalid_in_conditions-find_invalid_in_list-requires t c =
    let h = member_size c.args.members.now c.loop-member.member-index c.member-item.result (omega arith) in
    (omega (arith, rw (sym c.member-item.is) at h, c.decreases), tt)

pub find_invalid_in_items-find_invalid_name-requires : goal.find_invalid_in_items-find_invalid_name-requires
find_invalid_in_items-find_invalid_name-requires t c =
    let h = item_size c.args.items.now c.loop-item.item-index c.item-item.result (omega arith) in
    (omega (arith, rw (sym c.item-item.is) at h, c.decreases), tt)

use Rattle.std.proofs.Common.{◌≡◌, rules, sym, ap, arith}
use Rattle.jm_json.specs.Json.{tree_of}
use Rattle.jm_json.proofs.Sizes.{item_size, member_size}
use Rattle.jm_json.proofs.Values.{rise_next}
use Rattle.jm_json.proofs.copies.+copies.Goals as goal

pub copy_items-copy-requires : goal.copy_items-copy-requires
copy_items-copy-requires t c =
    let h = item_size c.args.items.now c.loop-item.item-index c.item-item.result (omega arith) in
    (omega (arith, rw (sym c.item-item.is) at h, c.decreases), tt)

pub copy_members-copy-requires-in-loop-member : goal.copy_members-copy-requires-in-loop-member
copy_members-copy-requires-in-loop-member t c =
    let h = member_size c.args.members.now c.loop-member.member-index c.member-item.result (omega arith) in
    (omega (arith, rw (sym c.member-item.is) at h, c.decreases), tt)

pub copy_members-push-requires : goal.copy_members-push-requires
copy_members-push-requires t c =
    let m = c.member-item.result in
    let named : c.in_ok-copy.field-0 ≡ m.name = search rules in
    let same : tree_of c.in_ok-copy-2.field-0 ≡ tree_of m.value = ap tree_of c.in_ok-copy-2.ensures in
    let next = rw (sym c.member-item.is) at (rise_next c.args.members.now c.loop-member.member-index m (omega arith) (search rules)) in
    rw (c.loop-member.invariant, named, same) next

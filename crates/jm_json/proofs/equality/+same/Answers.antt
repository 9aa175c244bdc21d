use Rattle.std.proofs.Common.{◌∙◌, ◌<◌, ◌+◌, ◌&&◌, length, drop, sym, ap, arith}
use Rattle.jm_json.proofs.Sizes.{item_size, member_size}
use Rattle.jm_json.proofs.Sames.{trees_of_lengths, fields_of_lengths, trees_tested, fields_tested, trees_step, fields_step}
use Rattle.jm_json.proofs.equality.+same.Goals as goal

pub are_same_items-returns-then-left-right : goal.are_same_items-returns-then-left-right
are_same_items-returns-then-left-right t c = sym (trees_of_lengths c.args.left.now c.args.right.now c.if-left-right.true)

pub are_same_items-is_same-requires : goal.are_same_items-is_same-requires
are_same_items-is_same-requires t c =
    let h = item_size c.args.left.now c.loop-i.i c.index-left-i.result (omega arith) in
    (omega (arith, rw (sym c.index-left-i.is) at h, c.decreases), tt)

pub are_same_items-loop-i-preserved : goal.are_same_items-loop-i-preserved
are_same_items-loop-i-preserved t c =
    let lt : c.loop-i.i < length c.args.right.now = omega arith in
    let step = trees_step c.args.left.now c.args.right.now c.loop-i.i c.index-left-i.result c.index-right-i.result c.loop-i-test.true lt c.index-left-i.is c.index-right-i.is in
    c.loop-i.invariant ∙ (step ∙ ap (λ b. b && trees_tested (drop (c.loop-i.i + 1) c.args.left.now) (drop (c.loop-i.i + 1) c.args.right.now)) (sym c.is_same.ensures ∙ c.if-not-is_same.false))

pub are_same_members-returns-then-left-right : goal.are_same_members-returns-then-left-right
are_same_members-returns-then-left-right t c = sym (fields_of_lengths c.args.left.now c.args.right.now c.if-left-right.true)

pub are_same_members-is_same_member-requires : goal.are_same_members-is_same_member-requires
are_same_members-is_same_member-requires t c =
    let h = member_size c.args.left.now c.loop-i.i c.index-left-i.result (omega arith) in
    (omega (arith, rw (sym c.index-left-i.is) at h, c.decreases), tt)

pub are_same_members-loop-i-preserved : goal.are_same_members-loop-i-preserved
are_same_members-loop-i-preserved t c =
    let lt : c.loop-i.i < length c.args.right.now = omega arith in
    let step = fields_step c.args.left.now c.args.right.now c.loop-i.i c.index-left-i.result c.index-right-i.result c.loop-i-test.true lt c.index-left-i.is c.index-right-i.is in
    c.loop-i.invariant ∙ (step ∙ ap (λ b. b && fields_tested (drop (c.loop-i.i + 1) c.args.left.now) (drop (c.loop-i.i + 1) c.args.right.now)) (sym c.is_same_member.ensures ∙ c.if-not-is_same_member.false))

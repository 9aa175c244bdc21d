use Rattle.std.proofs.Common.{◌≡◌, true, OnOk, sym, subst, arith}
use Rattle.mime_type.specs.PartTrees.{PartTrees}
use Rattle.mime_type.specs.PartViews.{node_of}
use Rattle.body_lists.specs.Lists.{Lists, both, given, inside, ended}
use Rattle.body_lists.specs.Views.{lists_of, open_of, enclosing_of}
use Rattle.body_lists.proofs.ListFacts.{part_size, multipart_gives}
use Rattle.body_lists.proofs.walk.+lists.Goals as goal

pub add_part-returns : goal.add_part-returns
add_part-returns t c =
    let out = lists_of c.args.out.now in
    let here = enclosing_of c.args.place in
    let node = node_of c.args.part.now in
    let taking = open_of c.args.taking in
    let new = given (inside here node) true taking c.args.part.now.parts in
    let same = multipart_gives here c.args.first taking node new c.if-is_none.ensures in
    subst (λ (l : Lists). OnOk c.end.result (lists_of c.end.new.self ≡ both out l)) (sym same)
    (subst (λ p. OnOk c.end.result (lists_of c.end.new.self ≡ both out (ended p taking (given p true taking c.args.part.now.parts)))) c.inside-place.ensures
    (c.end.ensures out (given (enclosing_of c.inside-place.result) true taking c.args.part.now.parts)
    (subst (λ (f : PartTrees). lists_of c.add_parts.new.out ≡ both out (given (enclosing_of c.inside-place.result) true taking f)) c.as_slice.ensures c.in_ok-add_parts.ensures)
    (sym c.len-text.ensures) (sym c.len-html.ensures)))

pub add_parts-add_part-requires : goal.add_parts-add_part-requires
add_parts-add_part-requires t c =
    let size = rw (sym c.part-item.is) at (part_size c.args.parts.now c.loop-part.part-index c.part-item.result (omega arith)) in
    (omega (arith, size, c.decreases), tt)

use Rattle.std.proofs.Common.{◌+◌, drop, sym, ap, ◌∙◌, arith}
use Rattle.std.specs.Option.{option_map, option_or}
use Rattle.mime_type.specs.PartTrees.{none}
use Rattle.mime_type.specs.PartViews.{joined}
use Rattle.mail_summary.specs.Leaves.{leaf_numbered}
use Rattle.mail_summary.specs.Views.{node_in}
use Rattle.mail_summary.proofs.LeafFacts.{part_size, found_next}
use Rattle.mail_summary.proofs.leaves.+find_leaf.Goals as goal

pub find_leaf_within-find_leaf-requires : goal.find_leaf_within-find_leaf-requires
find_leaf_within-find_leaf-requires t c =
    let size = rw (sym c.part-item.is) at (part_size c.args.parts.now c.loop-part.part-index c.part-item.result (omega arith)) in
    (omega (arith, size, c.decreases), tt)

pub find_leaf_within-returns-in-Some : goal.find_leaf_within-returns-in-Some
find_leaf_within-returns-in-Some t c =
    let later = leaf_numbered c.args.number (joined (drop (c.loop-part.part-index + 1) c.args.parts.now) none) in
    sym (sym c.loop-part.invariant ∙ found_next c.args.number c.loop-part.part-index c.args.parts.now c.part-item.result (omega arith) c.part-item.is
    ∙ ap (λ o. option_or o later) (sym c.find_leaf.ensures ∙ ap (option_map node_in) c.in-Some.is))

pub find_leaf_within-loop-part-preserved : goal.find_leaf_within-loop-part-preserved
find_leaf_within-loop-part-preserved t c =
    let later = leaf_numbered c.args.number (joined (drop (c.loop-part.part-index + 1) c.args.parts.now) none) in
    sym (found_next c.args.number c.loop-part.part-index c.args.parts.now c.part-item.result (omega arith) c.part-item.is
    ∙ ap (λ o. option_or o later) (sym c.find_leaf.ensures ∙ ap (option_map node_in) c.in_default.is)) ∙ c.loop-part.invariant

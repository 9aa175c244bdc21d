use Rattle.std.proofs.Common.{length, sym, subst, Option}
use Rattle.std.specs.Prelude.{IfSome}
use Rattle.mime_type.specs.PartTrees.{Node}
use Rattle.mime_tree.specs.Places.{IsPlaced}
use Rattle.mail_summary.specs.Leaves.{has_number}
use Rattle.mail_view.specs.Views.{nodes_of}
use Rattle.mail_view.proofs.TreeFacts.{found_placed}
use Rattle.mail_view.proofs.part_list.write_leaves.Goals as goal

pub write_leaf-requires-clause-placed : goal.write_leaf-requires-clause-placed
write_leaf-requires-clause-placed c =
    let size = length c.args.showing.now.bytes.now in
    subst (λ (o : Option Node). IfSome o (IsPlaced size)) (sym c.in-Some.ensures) (found_placed size (has_number _) (nodes_of c.args.parts.now) c.requires.placed)

use Rattle.std.proofs.Common.{length}
use Rattle.std.specs.Prelude.{slice_range}
use Rattle.std.proofs.lemmas.Result.{IfOk-weaker}
use Rattle.mime_type.specs.PartTrees.{none}
use Rattle.mime_type.specs.PartViews.{part_before}
use Rattle.mime_tree.proofs.TakenFacts.{parts_is}
use Rattle.mime_tree.proofs.SliceFacts.{slice_whole}
use Rattle.mime_tree.proofs.walk.parts.Goals as goal

pub returns-clause-tree : goal.returns-clause-tree
returns-clause-tree c =
    let bytes = c.args.bytes.now in
    IfOk-weaker c.read_part_tree.result _ _
    (λ p h. parts_is bytes (slice_range bytes 0 (length bytes)) (part_before p none) c.read_part_tree.new.budget.left c.read_part_tree.new.budget.number (slice_whole bytes) h)
    c.read_part_tree.ensures.taken

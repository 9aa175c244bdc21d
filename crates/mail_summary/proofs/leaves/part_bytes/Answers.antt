use Rattle.std.proofs.Common.{length, sym, ap, ◌∙◌}
use Rattle.std.specs.Option.{option_map}
use Rattle.mime_type.specs.PartTrees.{none}
use Rattle.mime_type.specs.PartViews.{part_before}
use Rattle.mail_summary.specs.Views.{node_in}
use Rattle.mail_summary.proofs.LeafFacts.{leaf_placed}
use Rattle.mail_summary.proofs.leaves.part_bytes.Goals as goal

pub read_body-requires : goal.read_body-requires
read_body-requires c =
    leaf_placed (length c.args.bytes.now) c.args.number (part_before c.in_ok-root.root none) (node_in c.in-Some.found) c.in_ok-root.ensures.places
    (sym c.find_leaf.ensures ∙ ap (option_map node_in) c.in-Some.is)

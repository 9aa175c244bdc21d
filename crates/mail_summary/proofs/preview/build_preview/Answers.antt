use Rattle.std.proofs.Common.{length, sym, ap, ◌∙◌}
use Rattle.std.specs.Option.{option_map}
use Rattle.mime_type.specs.PartTrees.{none}
use Rattle.mime_type.specs.PartViews.{part_before}
use Rattle.mail_summary.specs.Views.{node_in}
use Rattle.mail_summary.proofs.FirstTexts.{first_placed}
use Rattle.mail_summary.proofs.preview.build_preview.Goals as goal

pub part_preview-requires : goal.part_preview-requires
part_preview-requires c =
    first_placed (length c.args.bytes.now) (part_before c.args.root.now none) c.args.numbers.now (node_in c.in-Some.first) c.requires
    (sym c.find_first_text.ensures ∙ ap (option_map node_in) c.in-Some.is)

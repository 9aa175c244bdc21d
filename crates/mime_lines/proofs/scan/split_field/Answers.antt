use Rattle.std.proofs.Common.{ap, ◌∙◌}
use Rattle.mime_lines.specs.Lines.{lines}
use Rattle.mime_lines.proofs.ScanFacts.{drop_past}
use Rattle.mime_lines.proofs.scan.split_field.Goals as goal

pub returns-clause-back : goal.returns-clause-back
returns-clause-back c =
    ap lines (c.split_at.ensures.back ∙ drop_past c.args.rest.now c.args.line.now c.args.after.now c.count_folded_bytes.result c.requires)
    ∙ c.count_folded_bytes.ensures.back

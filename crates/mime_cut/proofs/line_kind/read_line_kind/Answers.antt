use Rattle.std.proofs.Common.{◌≡◌, ◌++◌, sym, ap, ◌∙◌}
use Rattle.mime_lines.specs.Lines.{text}
use Rattle.mime_cut.specs.DelimiterLines.{after_prefix, dashes}
use Rattle.mime_cut.proofs.LineKindFacts.{line_kind_some, line_kind_none}
use Rattle.mime_cut.proofs.line_kind.read_line_kind.Goals as goal

pub returns-in-Some : goal.returns-in-Some
returns-in-Some c =
    let same : text c.args.line.now ≡ c.split_at.result.0.now = c.count_text_bytes.ensures.value ∙ sym c.split_at.ensures.front in
    c.read_kind_by_rest.ensures ∙ sym (line_kind_some c.args.boundary.now c.args.line.now c.in-Some.rest.now (ap (after_prefix (dashes ++ c.args.boundary.now)) same ∙ c.in-Some.ensures))

pub returns-in-None : goal.returns-in-None
returns-in-None c =
    let same : text c.args.line.now ≡ c.split_at.result.0.now = c.count_text_bytes.ensures.value ∙ sym c.split_at.ensures.front in
    sym (line_kind_none c.args.boundary.now c.args.line.now (ap (after_prefix (dashes ++ c.args.boundary.now)) same ∙ c.in-None.ensures))

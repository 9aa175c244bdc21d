use Rattle.std.proofs.Common.{◌+◌, ◌∷◌, take, sym, ap, ◌∙◌}
use Rattle.mime_lines.specs.Lines.{lines}
use Rattle.mime_cut.specs.Cut.{piece, after_line}
use Rattle.mime_cut.specs.UpToDelimiter.{up_to_delimiter, lines_after}
use Rattle.mime_cut.proofs.CutFacts.{pieces_first, cut_first, found_is}
use Rattle.mime_cut.proofs.delimiter.find_delimiter.Goals as goal

pub returns-clause-pieces : goal.returns-clause-pieces
returns-clause-pieces c start =
    pieces_first c.args.boundary.now c.args.bytes.now start
    ∙ ap (λ n. piece start (take n c.args.bytes.now) ∷ after_line c.args.boundary.now (up_to_delimiter c.args.boundary.now 0 0 (lines c.args.bytes.now)).kind (start + (up_to_delimiter c.args.boundary.now 0 0 (lines c.args.bytes.now)).size) (lines_after c.args.boundary.now (lines c.args.bytes.now))) (sym c.scan.ensures.before)
    ∙ ap (λ ps. piece start (take c.scan.result.before c.args.bytes.now) ∷ ps) (found_is c.args.boundary.now start _ _ _ _ _ _ c.scan.ensures.kind c.scan.ensures.size c.scan.ensures.lines_after)

pub returns-clause-cut : goal.returns-clause-cut
returns-clause-cut c start =
    cut_first c.args.boundary.now (lines c.args.bytes.now) start
    ∙ found_is c.args.boundary.now start _ _ _ _ _ _ c.scan.ensures.kind c.scan.ensures.size c.scan.ensures.lines_after

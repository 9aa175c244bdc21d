use Rattle.std.proofs.Common.{◌≡◌, true, false, sym, ◌∙◌}
use Rattle.mime_lines.specs.Lines.{is_line_end, lines}
use Rattle.message_texts.proofs.HeaderLines.{header_ends, line_found, next_line}
use Rattle.message_texts.proofs.header_scan.scan_header.Goals as goal

pub returns-then-is_line_end : goal.returns-then-is_line_end
returns-then-is_line_end c =
    let line = c.split_line.result.0.now in
    let e : is_line_end line ≡ true = cc in
    sym (header_ends c.args.name.now c.args.needle.now c.loop-rest.rest.now line (lines c.split_line.result.1.now) c.split_line.ensures.first e) ∙ c.loop-rest.invariant

pub returns-then-found : goal.returns-then-found
returns-then-found c =
    let line = c.split_line.result.0.now in
    let e : is_line_end line ≡ false = cc in
    line_found c.args.name.now c.args.needle.now c.loop-rest.rest.now line c.split_line.result.1.now c.in_ok-found.found _ c.split_line.ensures.first e c.in_ok-found.ensures c.if-found.true c.loop-rest.invariant

pub loop-rest-preserved : goal.loop-rest-preserved
loop-rest-preserved c =
    let line = c.split_line.result.0.now in
    let e : is_line_end line ≡ false = cc in
    next_line c.args.name.now c.args.needle.now c.loop-rest.rest.now line c.split_line.result.1.now c.in_ok-found.found _ c.split_line.ensures.first e c.in_ok-found.ensures c.if-found.false c.loop-rest.invariant

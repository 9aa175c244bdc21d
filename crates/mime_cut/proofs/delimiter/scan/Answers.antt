use Rattle.std.proofs.Common.{◌≡◌, ◌+◌, length, sym, ap, ◌∙◌, arith, length-append}
use Rattle.std.proofs.lemmas.List.{length-take-le}
use Rattle.mime_lines.specs.Lines.{lines, text}
use Rattle.mime_lines.proofs.ScanFacts.{front_more}
use Rattle.mime_cut.specs.declared.line_kind.LineKind.TheVariants.{Other}
use Rattle.mime_cut.specs.DelimiterLines.{line_kind}
use Rattle.mime_cut.specs.UpToDelimiter.{up_to_delimiter}
use Rattle.mime_cut.proofs.CutFacts.{up_to_that}
use Rattle.mime_cut.proofs.delimiter.scan.Goals as goal

pub loop-line-preserved : goal.loop-line-preserved
loop-line-preserved c =
    let b = c.args.boundary.now in
    let line = c.split_line.result.0.now in
    let more = c.split_line.result.1.now in
    let left = c.loop-line.rest.now in
    let plain = c.split_plain.result.0.now in
    let later = c.split_plain.result.1.now in
    let other : line_kind b line ≡ Other = sym c.in-Other.ensures in
    let step = c.split_plain.ensures.plain b line (lines more) c.loop-line.before c.loop-line.size c.split_line.ensures.first other in
    let after = c.split_plain.ensures.lines_after b line (lines more) c.split_line.ensures.first other in
    let front = front_more c.args.bytes.now left plain later c.loop-line.size c.loop-line.invariant.all c.loop-line.invariant.rest c.split_plain.ensures.whole in
    let count : c.count_text_bytes.result ≡ length (text plain) = sym (ap length c.count_text_bytes.ensures.value ∙ length-take-le c.count_text_bytes.result plain c.count_text_bytes.ensures.within) in
    record {
      found = ap (λ n. up_to_delimiter b (c.loop-line.size + n) (c.loop-line.size + length plain) (lines later)) count ∙ sym step ∙ c.loop-line.invariant.found;
      lines_after = sym after ∙ c.loop-line.invariant.lines_after;
      rest = front.1;
      ordered = omega (arith, c.count_text_bytes.ensures.within);
      all = omega (arith, length-append plain later, ap length c.split_plain.ensures.whole);
    }

pub returns-in-DelimiterLine : goal.returns-in-DelimiterLine
returns-in-DelimiterLine c =
    let b = c.args.boundary.now in
    let line = c.split_line.result.0.now in
    let more = c.split_line.result.1.now in
    let left = c.loop-line.rest.now in
    let found = up_to_that b line (lines left) (lines more) c.loop-line.before c.loop-line.size c.read_line_kind-kind.result c.split_line.ensures.first (sym c.read_line_kind-kind.ensures) c.in-DelimiterLine.is in
    let all = sym found.0 ∙ c.loop-line.invariant.found in
    let front = front_more c.args.bytes.now left line more c.loop-line.size c.loop-line.invariant.all c.loop-line.invariant.rest c.split_line.ensures.whole in
    record {
      before = ap (λ s. s.before) all;
      size = ap (λ s. s.size) all;
      kind = ap (λ s. s.kind) all;
      rest = front.1;
      lines_after = sym found.1 ∙ c.loop-line.invariant.lines_after;
      ordered = omega arith;
      within = omega (arith, length-append line more, ap length c.split_line.ensures.whole);
      advances = λ _. omega arith;
    }

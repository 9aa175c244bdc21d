use Rattle.std.proofs.Common.{length, length-append, ap, arith}
use Rattle.std.specs.List.{flat_map}
use Rattle.mime_lines.specs.Lines.{lines}
use Rattle.mime_codec.specs.Quoted.{quoted_line}
use Rattle.mime_codec.proofs.Cuts.{escapes_of_lines}
use Rattle.mime_codec.proofs.size.count_all_cut.Goals as goal

pub loop-rest-preserved : goal.loop-rest-preserved
loop-rest-preserved c =
    let rest = c.loop-rest.rest.now in
    let line = c.split_line.result.0.now in
    let after = c.split_line.result.1.now in
    let later = flat_map quoted_line (lines after) in
    let size = ap length c.split_line.ensures.whole in
    record {
      same = omega (
        arith,
        c.loop-rest.invariant.same,
        c.count_cut-count.ensures,
        size,
        length-append line after,
        escapes_of_lines rest line after c.split_line.ensures.first c.split_line.ensures.whole,
        ap (λ ls. length (flat_map quoted_line ls)) c.split_line.ensures.first,
        length-append (quoted_line line) later,
      );
      within = omega (arith, c.loop-rest.invariant.within, c.count_cut-count.ensures, size, length-append line after);
    }

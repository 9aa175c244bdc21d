use Rattle.std.proofs.Common.{◌≡◌, ◌++◌, take, length, sym, ap, ◌∙◌, length-append, append_assoc, arith}
use Rattle.mime_lines.specs.Lines.{lines}
use Rattle.mime_lines.specs.Fields.{goes_on}
use Rattle.mime_lines.specs.Scan.{followers}
use Rattle.std.proofs.Common.{true}
use Rattle.mime_lines.proofs.ScanFacts.{front_more, followers_more}
use Rattle.mime_lines.proofs.scan.count_folded_bytes.Goals as goal

pub loop-left-preserved : goal.loop-left-preserved
loop-left-preserved c =
    let folded : goes_on c.split_line.result.0.now ≡ true = cc in
    let front = front_more c.args.rest.now c.loop-left.left.now c.split_line.result.0.now c.split_line.result.1.now c.loop-left.len c.loop-left.invariant.size c.loop-left.invariant.left c.split_line.ensures.whole in
    let step = followers_more (lines c.loop-left.left.now) (lines c.split_line.result.1.now) c.split_line.result.0.now c.split_line.ensures.first folded in
    record {
      size = omega (arith, length-append c.split_line.result.0.now c.split_line.result.1.now, ap length c.split_line.ensures.whole);
      left = front.1;
      front = c.loop-left.invariant.front ∙ ap (λ t. take c.loop-left.len c.args.rest.now ++ t) step.0 ∙ sym (append_assoc (take c.loop-left.len c.args.rest.now) c.split_line.result.0.now (followers (lines c.split_line.result.1.now))) ∙ ap (λ t. t ++ followers (lines c.split_line.result.1.now)) (sym front.0);
      back = sym step.1 ∙ c.loop-left.invariant.back;
    }

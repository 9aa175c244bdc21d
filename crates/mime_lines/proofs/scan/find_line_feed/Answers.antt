use Rattle.std.proofs.Common.{◌+◌, ◌≤◌, ◌∙◌, not, eqb, length, take, ap, arith}
use Rattle.std.specs.List.{prefix_len}
use Rattle.mime_lines.proofs.Feeds.{none_to, first_at, whole_block}
use Rattle.mime_lines.proofs.scan.find_line_feed.Goals as goal

pub returns-then-len-lt-BLOCK_BYTES : goal.returns-then-len-lt-BLOCK_BYTES
returns-then-len-lt-BLOCK_BYTES c =
    let text = c.args.text.now in
    let at = c.loop-at.at in
    let len = c.count_before-len.result in
    let long : at + 32 ≤ length text = omega (arith, c.loop-at-test.true, c.loop-at.invariant.within) in
    let same = c.count_before-len.ensures ∙ ap (λ t. prefix_len (λ b. not (eqb b 10)) (take 32 t)) c.split_at.ensures.back in
    let small = c.if-len-lt-BLOCK_BYTES.true in (
      record {
        low = omega arith;
        high = omega (arith, long, small);
        before = none_to text at len long (omega (arith, small)) same c.loop-at.invariant.before;
      },
      first_at text at len long small same,
    )

pub loop-at-preserved : goal.loop-at-preserved
loop-at-preserved c =
    let text = c.args.text.now in
    let at = c.loop-at.at in
    let len = c.count_before-len.result in
    let long : at + 32 ≤ length text = omega (arith, c.loop-at-test.true, c.loop-at.invariant.within) in
    let same = c.count_before-len.ensures ∙ ap (λ t. prefix_len (λ b. not (eqb b 10)) (take 32 t)) c.split_at.ensures.back in
    record {
      within = long;
      before = λ k low high. none_to text at len long (whole_block text at len long same) same c.loop-at.invariant.before k low (omega (arith, high, c.if-len-lt-BLOCK_BYTES.false));
    }

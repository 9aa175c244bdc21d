use Rattle.std.proofs.Common.{◌≡◌, ◌+◌, ◌-◌, ◌≤◌, length, take, drop, ap, arith}
use Rattle.mime_lines.specs.Fields.{body_of}
use Rattle.mime_type.proofs.PieceLengths.{length-piece}
use Rattle.mime_type.proofs.Same.{same_node}
use Rattle.mime_type.specs.Head.{head_at}
use Rattle.mime_type.proofs.head.part_head.Goals as goal

pub overflow_add-result : goal.overflow_add-result
overflow_add-result c =
    let piece = take (c.args.end - c.args.start) (drop c.args.start c.args.bytes.now) in
    let inside : c.in_ok-head.head.body ≤ length piece = c.in_ok-head.ensures.inside in
    let size : length piece ≡ c.args.end - c.args.start = length-piece c.args.bytes.now c.args.start c.args.end c.requires.within in
    omega (arith, inside, size, c.ranges.end.fits)

pub returns-clause-node : goal.returns-clause-node
unfolding head_at
returns-clause-node c =
    let piece = take (c.args.end - c.args.start) (drop c.args.start c.args.bytes.now) in
    let size : length piece ≡ c.args.end - c.args.start = length-piece c.args.bytes.now c.args.start c.args.end c.requires.within in
    let body : c.args.start + c.in_ok-head.head.body ≡ c.args.start + body_of piece = ap (λ n. c.args.start + n) c.in_ok-head.ensures.body in
    let end : c.args.end ≡ c.args.start + length piece = omega (arith, size) in
    same_node c.args.start _ _ body _ _ end _ _ c.in_ok-content.ensures.media _ _ c.in_ok-content.ensures.charset _ _ c.in_ok-content.ensures.boundary _ _ c.in_ok-content.ensures.disposition _ _ c.in_ok-content.ensures.name _ _ c.in_ok-labels.ensures.cid _ _ c.in_ok-labels.ensures.language _ _ c.in_ok-labels.ensures.location _ _ c.in_ok-labels.ensures.coding

use Rattle.std.proofs.Common.{◌≡◌, ◌+◌, get_or, ap, ◌∙◌, arith}
use Rattle.std.proofs.lemmas.Simd.{length-chunk, get_or-chunk}
use Rattle.mail_summary.proofs.texts_lines.load.Goals as goal

pub returns : goal.returns
returns c = record {
  long = length-chunk 0 32 c.args.block.now c.requires;
  each = λ k l. let same : 0 + k ≡ k = omega arith in get_or-chunk 0 32 c.args.block.now k 0 l ∙ ap (λ n. get_or c.args.block.now n 0) same;
}

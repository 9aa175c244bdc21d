use Rattle.std.proofs.Common.{arith}
use Rattle.mime_codec.proofs.Runs.{in_block, plain_front}
use Rattle.mime_codec.proofs.quoted.count_plain.Goals as goal

pub returns-then-plain-len-clause-value : goal.returns-then-plain-len-clause-value
returns-then-plain-len-clause-value c =
    plain_front c.args.text.now c.count_before-plain.result c.count_before-plain.result c.args.len c.requires.block c.count_before-plain.ensures (omega arith) (omega (arith, c.if-plain-len.true)) c.requires.within

pub returns-then-plain-len-clause-block : goal.returns-then-plain-len-clause-block
returns-then-plain-len-clause-block c = in_block c.args.text.now c.count_before-plain.result c.requires.block c.count_before-plain.ensures

pub returns-else-plain-len-clause-value : goal.returns-else-plain-len-clause-value
returns-else-plain-len-clause-value c =
    plain_front c.args.text.now c.count_before-plain.result c.args.len c.args.len c.requires.block c.count_before-plain.ensures c.if-plain-len.false (omega arith) c.requires.within

pub returns-else-plain-len-clause-block : goal.returns-else-plain-len-clause-block
returns-else-plain-len-clause-block c =
    omega (arith, c.if-plain-len.false, in_block c.args.text.now c.count_before-plain.result c.requires.block c.count_before-plain.ensures)

use Rattle.std.proofs.Common.{arith}
use Rattle.mime_codec.proofs.Escapes.{escapes_last}
use Rattle.mime_codec.proofs.size.count_window_escapes.Goals as goal

pub returns-clause-value : goal.returns-clause-value
returns-clause-value c = omega (arith, c.loop-i.invariant.same, escapes_last c.args.text.now c.loop-i.i (omega (arith, c.loop-i-test.false)))

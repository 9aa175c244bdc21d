use Rattle.std.proofs.Common.{arith}
use Rattle.mime_codec.proofs.Escapes.{escapes_last}
use Rattle.mime_codec.proofs.size.count_escapes.Goals as goal

pub returns-clause-value : goal.returns-clause-value
returns-clause-value c = omega (arith, c.loop-left.invariant.same, escapes_last c.loop-left.left.now 0 (omega (arith, c.loop-left-test.false)))

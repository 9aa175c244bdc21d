use Rattle.std.proofs.Common.{arith}
use Rattle.body_lists.proofs.ListFacts.{filled}
use Rattle.body_lists.proofs.walk.fill.Goals as goal

pub returns-then-len-from : goal.returns-then-len-from
returns-then-len-from c = filled c.args.from c.args.numbers.now _ (omega (arith, c.if-len-from.true))

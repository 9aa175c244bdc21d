use Rattle.std.proofs.Common.{arith}
use Rattle.jm_json.proofs.Parts.{cut_last, cut_more}
use Rattle.jm_json.proofs.paths.part_end.Goals as goal

pub returns-then-b-eq47-clause-more : goal.returns-then-b-eq47-clause-more
returns-then-b-eq47-clause-more c = λ within. cut_more c.args.path.now c.loop-i.i within c.if-b-eq47.true c.loop-i.invariant

pub returns-clause-last : goal.returns-clause-last
returns-clause-last c = λ e. cut_last c.args.path.now (λ k less. c.loop-i.invariant k (omega arith))

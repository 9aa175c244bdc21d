use Rattle.std.proofs.Common.{arith}
use Rattle.jm_json.specs.Pointer.{name_of}
use Rattle.jm_json.proofs.Patched.{mapped_nil, plain_step}
use Rattle.jm_json.proofs.paths.is_plain.Goals as goal

pub loop-b-init : goal.loop-b-init
loop-b-init c = mapped_nil (name_of c.args.part.now)

pub loop-b-preserved : goal.loop-b-preserved
loop-b-preserved c = plain_step c.args.part.now c.loop-b.b-index (omega arith) c.if-b-eq126.false c.if-b-eq47.false c.loop-b.invariant

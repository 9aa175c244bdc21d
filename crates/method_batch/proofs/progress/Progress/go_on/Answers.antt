use Rattle.std.proofs.Common.{arith}
use Rattle.jm_json.specs.Invocations.{call_of}
use Rattle.method_batch.proofs.Together.{may_have}
use Rattle.method_batch.proofs.progress.Progress.go_on.Goals as goal

pub returns-in-Ok-clause-err : goal.returns-in-Ok-clause-err
returns-in-Ok-clause-err g c =
    let room = c.in-Ok.ensures.room in
    may_have g.P.Port.answers g.P.Port.stops c.args.port.now c.reply.new.port c.args.core c.args.mail (call_of c.args.call) c.args.self.now c.args.room.now c.in-Ok.replied c.take.result c.in-Ok.ensures.replied (omega (arith, room))

use Rattle.std.proofs.Common.{rules, ◌≡◌, false}
use Rattle.jm_json.specs.Invocations.{call_of}
use Rattle.method_batch.specs.Answer.{is_echo}
use Rattle.method_batch.proofs.Together.{port_replied, port_stopped}
use Rattle.method_batch.proofs.reply.reply_ready.Goals as goal

pub returns-clause-replied : goal.returns-clause-replied
returns-clause-replied g c =
    let echo : is_echo (call_of c.args.call) ≡ false = search rules in
    port_replied g.P.Port.answers c.args.port.now c.call.new.self (call_of c.args.call) c.args.made.now c.call.result echo c.call.ensures.answer

pub returns-clause-stopped : goal.returns-clause-stopped
returns-clause-stopped g c =
    let echo : is_echo (call_of c.args.call) ≡ false = search rules in
    port_stopped g.P.Port.stops c.args.port.now c.call.new.self (call_of c.args.call) c.args.made.now c.call.result echo c.call.ensures.stopped

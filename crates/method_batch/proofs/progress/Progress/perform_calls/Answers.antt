use Rattle.std.proofs.Common.{[], ◌∷◌, ◌++◌, ◌+◌, map, arith}
use Rattle.jm_json.specs.Invocations.{call_of}
use Rattle.method_batch.specs.Prepared.{taken_by}
use Rattle.method_batch.proofs.Together.{runs_on, answers_on, next_call, begun}
use Rattle.method_batch.proofs.progress.Progress.perform_calls.Goals as goal

pub loop-call-preserved : goal.loop-call-preserved
loop-call-preserved g c =
    let l = c.loop-call in
    let one = c.in-Ok.ensures.ok in
    let call = call_of c.in-Some.call in
    let before = l.invariant.6 in
    let room = c.in-Ok.ensures.room in (
      l.invariant.0 ++ call ∷ [],
      l.invariant.1 ++ one.0,
      l.invariant.2 + taken_by c.args.core c.args.mail call l.progress.responses,
      next_call c.args.calls l.invariant.0 l.rest.items c.pop_front.new.self.items c.in-Some.call l.invariant.3 c.in-Some.ensures.items,
      runs_on g.P.Port.answers c.args.port.now l.port c.go_on.new.port l.invariant.1 one.0 l.invariant.4 one.2,
      answers_on c.args.core c.args.mail l.invariant.0 call l.invariant.1 one.0 c.args.self l.progress c.go_on.new.self one.1 l.invariant.2 l.invariant.5 one.3 one.4,
      omega (arith, before, room),
    )

pub returns-in-Err-clause-begun : goal.returns-in-Err-clause-begun
returns-in-Err-clause-begun g c =
    let l = c.loop-call in
    begun g.P.Port.answers g.P.Port.stops c.args.port.now l.port c.go_on.new.port c.args.core c.args.mail c.args.calls l.invariant.0 (map call_of c.pop_front.new.self.items) (call_of c.in-Some.call) l.invariant.1 c.args.self l.progress l.invariant.2 l.room g.met.P.Port.stays
    (next_call c.args.calls l.invariant.0 l.rest.items c.pop_front.new.self.items c.in-Some.call l.invariant.3 c.in-Some.ensures.items) l.invariant.4 l.invariant.5 l.invariant.6 c.in-Err.ensures.err

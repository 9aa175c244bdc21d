use Rattle.jmap_http.specs.Steps.{steps_of}
use Rattle.jmap_http.proofs.Nexts.{answered_after, refused_after}
use Rattle.jmap_http.proofs.connection.serve_next.Goals as goal

pub returns-in-Ok-clause-served : goal.returns-in-Ok-clause-served
returns-in-Ok-clause-served g c =
    answered_after (steps_of g.P.Port.answers g.P.Port.stops g.P.UserPort.steps) c.args.users.now.users c.args.number c.args.port.now c.answer_whole.new.port (g.C.Clock.times c.args.clock.now) (g.C.Clock.times c.answer_whole.new.clock) c.args.early.now c.read_request.new.early
    (g.L.Link.left c.args.link.now) (g.L.Link.left c.read_request.new.link) (g.L.Link.left c.answer_whole.new.link) (g.L.Link.held c.args.link.now) (g.L.Link.held c.read_request.new.link) (g.L.Link.held c.answer_whole.new.link)
    (g.L.Link.read_faults c.args.link.now) (g.L.Link.read_faults c.read_request.new.link) (g.L.Link.read_faults c.answer_whole.new.link) (g.L.Link.put_faults c.args.link.now) (g.L.Link.put_faults c.read_request.new.link) (g.L.Link.put_faults c.answer_whole.new.link)
    c.in-Ok.request c.answer_whole.result c.answer_whole.ensures.left c.answer_whole.ensures.read_faults c.in-Ok.ensures.read c.answer_whole.ensures.answered c.in-Ok.ensures.puts_later

pub returns-in-Err-clause-served : goal.returns-in-Err-clause-served
returns-in-Err-clause-served g c =
    refused_after (steps_of g.P.Port.answers g.P.Port.stops g.P.UserPort.steps) c.args.users.now.users c.args.number c.args.port.now (g.C.Clock.times c.args.clock.now) c.args.early.now c.read_request.new.early
    (g.L.Link.left c.args.link.now) (g.L.Link.left c.read_request.new.link) (g.L.Link.left c.refuse.new.link) (g.L.Link.held c.args.link.now) (g.L.Link.held c.read_request.new.link) (g.L.Link.held c.refuse.new.link)
    (g.L.Link.read_faults c.args.link.now) (g.L.Link.read_faults c.read_request.new.link) (g.L.Link.read_faults c.refuse.new.link) (g.L.Link.put_faults c.args.link.now) (g.L.Link.put_faults c.read_request.new.link) (g.L.Link.put_faults c.refuse.new.link)
    c.in-Err.fault c.refuse.result c.refuse.ensures.left c.refuse.ensures.read_faults c.in-Err.ensures.read c.refuse.ensures.refused c.in-Err.ensures.puts_later c.refuse.ensures.later

use Rattle.jmap_http.specs.Connections.{asks_to_end}
use Rattle.jmap_http.specs.Steps.{steps_of}
use Rattle.jmap_http.proofs.Exchanges.{serves_nothing}
use Rattle.jmap_http.proofs.connection.serve_requests.Goals as goal

pub returns-in-Err : goal.returns-in-Err
returns-in-Err g c =
    serves_nothing (steps_of g.P.Port.answers g.P.Port.stops g.P.UserPort.steps) c.args.users.now.users asks_to_end c.args.port.now (g.C.Clock.times c.args.clock.now) (g.L.Link.left c.args.link.now) (g.L.Link.left c.end_without_memory.new.link) (g.L.Link.held c.args.link.now) (g.L.Link.held c.end_without_memory.new.link) (g.L.Link.read_faults c.args.link.now) (g.L.Link.read_faults c.end_without_memory.new.link) (g.L.Link.put_faults c.args.link.now) (g.L.Link.put_faults c.end_without_memory.new.link)
    c.end_without_memory.result c.end_without_memory.ensures.is c.end_without_memory.ensures.left c.end_without_memory.ensures.put

use Rattle.std.proofs.Common.{◌∙◌, refl, arith}
use Rattle.jmap_http.specs.Connections.{asks_to_end}
use Rattle.jmap_http.specs.Steps.{steps_of}
use Rattle.jmap_http.proofs.Exchanges.{below_limit, goes_none, goes_on, goes_to_end}
use Rattle.jmap_http.proofs.connection.serve_all.Goals as goal

pub request-init : goal.request-init
request-init g c = record {
  goes = goes_none (steps_of g.P.Port.answers g.P.Port.stops g.P.UserPort.steps) c.args.users.now.users asks_to_end c.args.port.now (g.C.Clock.times c.args.clock.now) (g.L.Link.left c.args.link.now) (g.L.Link.held c.args.link.now) (g.L.Link.read_faults c.args.link.now) (g.L.Link.put_faults c.args.link.now) c.new-early.result c.new-early.ensures;
  within = omega arith;
  sized = refl;
}

pub request-preserved : goal.request-preserved
request-preserved g c = record {
  goes = goes_on (steps_of g.P.Port.answers g.P.Port.stops g.P.UserPort.steps) c.args.users.now.users asks_to_end c.args.port.now c.request.port c.serve_next.new.port (g.C.Clock.times c.args.clock.now) (g.C.Clock.times c.request.clock) (g.C.Clock.times c.serve_next.new.clock)
      (g.L.Link.left c.args.link.now) (g.L.Link.left c.request.link) (g.L.Link.left c.serve_next.new.link) (g.L.Link.held c.args.link.now) (g.L.Link.held c.request.link) (g.L.Link.held c.serve_next.new.link)
      (g.L.Link.read_faults c.args.link.now) (g.L.Link.read_faults c.request.link) (g.L.Link.read_faults c.serve_next.new.link) (g.L.Link.put_faults c.args.link.now) (g.L.Link.put_faults c.request.link) (g.L.Link.put_faults c.serve_next.new.link)
      c.request.number c.request.early c.serve_next.new.early c.request.invariant.goes c.in-None.ensures.served c.in-None.ensures.reads_later c.in-None.ensures.puts_later;
  within = below_limit c.request.number c.request.invariant.within c.in-None.ensures.served.outcome.1;
  sized = c.in-None.ensures.room ∙ c.request.invariant.sized;
}

pub returns-in-Some : goal.returns-in-Some
returns-in-Some g c =
    goes_to_end (steps_of g.P.Port.answers g.P.Port.stops g.P.UserPort.steps) c.args.users.now.users asks_to_end c.args.port.now c.request.port c.serve_next.new.port (g.C.Clock.times c.args.clock.now) (g.C.Clock.times c.request.clock) (g.C.Clock.times c.serve_next.new.clock)
    (g.L.Link.left c.args.link.now) (g.L.Link.left c.request.link) (g.L.Link.left c.serve_next.new.link) (g.L.Link.held c.args.link.now) (g.L.Link.held c.request.link) (g.L.Link.held c.serve_next.new.link)
    (g.L.Link.read_faults c.args.link.now) (g.L.Link.read_faults c.request.link) (g.L.Link.read_faults c.serve_next.new.link) (g.L.Link.put_faults c.args.link.now) (g.L.Link.put_faults c.request.link) (g.L.Link.put_faults c.serve_next.new.link)
    c.request.number c.request.early c.serve_next.new.early c.in-Some.served c.request.invariant.goes c.request.invariant.within c.in-Some.ensures.served

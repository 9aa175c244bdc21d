use Rattle.std.proofs.Common.{◌≡◌, ◌<◌, ◌-◌, length}
use Rattle.jmap_http.specs.Connections.{asks_to_end}
use Rattle.jmap_http.specs.Steps.{steps_of}
use Rattle.jmap_http.specs.declared.limits.TheConstants.{MAX_REQUESTS_PER_CONNECTION}
use Rattle.jmap_http.proofs.Exchanges.{Goes}
use Rattle.jmap_http.proofs.connection.serve_all.Given as goal

abbrev pub invariant-request : goal.invariant-request
invariant-request g l = record {
  goes : Goes (steps_of g.P.Port.answers g.P.Port.stops g.P.UserPort.steps) l.fn.users.users asks_to_end l.fn.port l.port (g.C.Clock.times l.fn.clock) (g.C.Clock.times l.clock)
      (g.L.Link.left l.fn.link) (g.L.Link.left l.link) (g.L.Link.held l.fn.link) (g.L.Link.held l.link) (g.L.Link.read_faults l.fn.link) (g.L.Link.read_faults l.link) (g.L.Link.put_faults l.fn.link) (g.L.Link.put_faults l.link) l.number l.early;
  within : l.number < MAX_REQUESTS_PER_CONNECTION;
  sized : length l.room ≡ length l.fn.room;
}

abbrev pub decreases-request : goal.decreases-request
decreases-request g l = MAX_REQUESTS_PER_CONNECTION - l.number

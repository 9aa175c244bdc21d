use Rattle.http_wire.proofs.ResponseRead.{stops_response, later_response}
use Rattle.http_wire.proofs.read_responses.read_response.Goals as goal

pub returns-in-Ok-clause-read : goal.returns-in-Ok-clause-read
returns-in-Ok-clause-read g c =
    later_response c.args.early.now c.read_head.new.bytes c.read_response_after.new.early (g.L.Link.left c.args.link.now) (g.L.Link.left c.read_head.new.link) (g.L.Link.left c.read_response_after.new.link) (g.L.Link.read_faults c.args.link.now) (g.L.Link.read_faults c.read_head.new.link) (g.L.Link.read_faults c.read_response_after.new.link) c.read_response_after.result
    c.in-Ok.ensures.gained c.in-Ok.ensures.later c.read_response_after.ensures.read

pub returns-in-Err-clause-read : goal.returns-in-Err-clause-read
returns-in-Err-clause-read g c =
    stops_response c.in-Err.fault c.args.early.now c.read_head.new.bytes (g.L.Link.left c.args.link.now) (g.L.Link.left c.read_head.new.link) (g.L.Link.read_faults c.args.link.now) (g.L.Link.read_faults c.read_head.new.link) c.in-Err.ensures.stops

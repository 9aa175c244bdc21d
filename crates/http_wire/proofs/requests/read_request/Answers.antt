use Rattle.http_wire.proofs.Answered.{stops_request, later_after}
use Rattle.http_wire.proofs.requests.read_request.Goals as goal

pub returns-in-Ok-clause-read : goal.returns-in-Ok-clause-read
returns-in-Ok-clause-read g c =
    later_after (g.B.KeepsBody.is_kept c.args.keeper.now) c.args.early.now c.read_head.new.bytes c.read_after_head.new.early (g.L.Link.left c.args.link.now) (g.L.Link.left c.read_head.new.link) (g.L.Link.left c.read_after_head.new.link) (g.L.Link.held c.args.link.now) (g.L.Link.held c.read_head.new.link) (g.L.Link.held c.read_after_head.new.link) (g.L.Link.read_faults c.args.link.now) (g.L.Link.read_faults c.read_head.new.link) (g.L.Link.read_faults c.read_after_head.new.link) (g.L.Link.put_faults c.args.link.now) (g.L.Link.put_faults c.read_head.new.link) (g.L.Link.put_faults c.read_after_head.new.link) c.read_after_head.result
    c.in-Ok.ensures.gained c.in-Ok.ensures.later c.in-Ok.ensures.held c.in-Ok.ensures.put_faults c.read_after_head.ensures.read

pub returns-in-Err-clause-read : goal.returns-in-Err-clause-read
returns-in-Err-clause-read g c =
    stops_request (g.B.KeepsBody.is_kept c.args.keeper.now) c.in-Err.fault c.args.early.now c.read_head.new.bytes (g.L.Link.left c.args.link.now) (g.L.Link.left c.read_head.new.link) (g.L.Link.held c.args.link.now) (g.L.Link.held c.read_head.new.link) (g.L.Link.read_faults c.args.link.now) (g.L.Link.read_faults c.read_head.new.link) (g.L.Link.put_faults c.args.link.now) (g.L.Link.put_faults c.read_head.new.link)
    c.in-Err.ensures.stops c.in-Err.ensures.held

use Rattle.std.proofs.Common.{rules}
use Rattle.http_wire.specs.declared.limits.TheConstants.{MAX_RESPONSE_BYTES}
use Rattle.http_wire.proofs.ToEnd.{came_over, out_of_room}
use Rattle.http_wire.proofs.ended_bodies.append_to_end.Goals as goal

pub returns-then-count-len-clause-err : goal.returns-then-count-len-clause-err
returns-then-count-len-clause-err g c =
    came_over c.args.body.now.items c.turn.body.items c.read.new.room c.in-Ok.count MAX_RESPONSE_BYTES (g.L.Link.left c.args.link.now) (g.L.Link.left c.turn.link) (g.L.Link.left c.read.new.self) (g.L.Link.read_faults c.args.link.now) (g.L.Link.read_faults c.read.new.self)
    c.turn.invariant.grown c.in-Ok.ensures.bytes.0 c.in-Ok.ensures.bound.0 (search rules) c.turn.invariant.low

pub returns-in-Err-extend_from_slice-clause-err : goal.returns-in-Err-extend_from_slice-clause-err
returns-in-Err-extend_from_slice-clause-err g c =
    out_of_room c.args.body.now.items c.turn.body.items c.read.new.room c.in-Ok.count MAX_RESPONSE_BYTES (g.L.Link.left c.args.link.now) (g.L.Link.left c.turn.link) (g.L.Link.left c.read.new.self) (g.L.Link.read_faults c.args.link.now) (g.L.Link.read_faults c.read.new.self)
    c.turn.invariant.grown c.in-Ok.ensures.bytes.0

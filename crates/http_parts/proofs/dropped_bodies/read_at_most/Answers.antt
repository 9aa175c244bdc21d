use Rattle.std.proofs.Common.{rules}
use Rattle.http_parts.proofs.Dropped.{took_most}
use Rattle.http_parts.proofs.dropped_bodies.read_at_most.Goals as goal

pub returns-in-Ok-clause-ok : goal.returns-in-Ok-clause-ok
returns-in-Ok-clause-ok g c =
    took_most c.read.new.room c.in-Ok.count c.args.most (g.L.Link.left c.args.link.now) (g.L.Link.left c.read.new.self)
    c.in-Ok.ensures.bound.0 (search rules) (search rules) c.in-Ok.ensures.bytes.0 c.in-Ok.ensures.bytes.1

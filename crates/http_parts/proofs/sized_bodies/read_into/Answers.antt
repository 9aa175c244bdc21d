use Rattle.std.proofs.Common.{rules}
use Rattle.http_parts.proofs.Filled.{filled}
use Rattle.http_parts.proofs.sized_bodies.read_into.Goals as goal

pub returns-in-Ok-clause-ok : goal.returns-in-Ok-clause-ok
returns-in-Ok-clause-ok g c =
    filled c.split_at_mut-room.result.0.now c.read.new.room c.args.buffer.now c.args.at c.in-Ok.count (g.L.Link.left c.args.link.now) (g.L.Link.left c.read.new.self)
    c.split_at_mut-room.ensures.front c.split_at_mut-room.ensures.front_len c.in-Ok.ensures.bound.0 c.in-Ok.ensures.bytes.0 c.in-Ok.ensures.bytes.1 (search rules)

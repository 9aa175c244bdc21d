use Rattle.std.proofs.Common.{rules}
use Rattle.http_parts.proofs.Filled.{gains_ended}
use Rattle.http_parts.proofs.sized_bodies.fill.Goals as goal

pub returns-then-more-eq0-clause-err : goal.returns-then-more-eq0-clause-err
returns-then-more-eq0-clause-err g c =
    gains_ended c.args.buffer.now.items c.turn.buffer.items c.read_next.new.buffer.items c.len-start.result c.turn.at c.in-Ok.more c.args.count (g.L.Link.left c.args.link.now) (g.L.Link.left c.turn.link) (g.L.Link.left c.read_next.new.link) (g.L.Link.read_faults c.args.link.now) (g.L.Link.read_faults c.read_next.new.link)
    c.turn.invariant.gains c.in-Ok.ensures.ok c.if-more-eq0.true c.turn.invariant.start (search rules)

use Rattle.std.proofs.Common.{◌-◌, ◌∙◌, arith}
use Rattle.http_parts.proofs.Dropped.{gone_on}
use Rattle.http_parts.proofs.dropped_bodies.drop_bytes.Goals as goal

pub turn-preserved : goal.turn-preserved
turn-preserved g c = record {
  within = omega (arith, c.turn.invariant.within, c.in-Ok.ensures.ok.2.1, c.turn-test.true);
  gone = gone_on c.turn.at c.in-Ok.more (c.args.count - c.turn.at) (g.L.Link.left c.args.link.now) (g.L.Link.left c.turn.link) (g.L.Link.left c.read_at_most.new.link) c.turn.invariant.gone c.in-Ok.ensures.ok;
  sized = c.in-Ok.ensures.room ∙ c.turn.invariant.sized;
  faults = omega (arith, c.turn.invariant.faults, c.in-Ok.ensures.later);
  held = c.in-Ok.ensures.held ∙ c.turn.invariant.held;
  put_faults = c.in-Ok.ensures.put_faults ∙ c.turn.invariant.put_faults;
}

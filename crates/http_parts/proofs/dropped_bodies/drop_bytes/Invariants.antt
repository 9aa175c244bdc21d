use Rattle.std.proofs.Common.{◌-◌, ◌≡◌, ◌≤◌, length}
use Rattle.http_parts.proofs.Dropped.{Gone}
use Rattle.http_parts.proofs.dropped_bodies.drop_bytes.Given as goal

abbrev pub invariant-turn : goal.invariant-turn
invariant-turn g l = record {
  within : l.at ≤ l.count;
  gone : Gone l.at (g.L.Link.left l.fn.link) (g.L.Link.left l.link);
  sized : length l.room ≡ length l.fn.room;
  faults : g.L.Link.read_faults l.fn.link ≤ g.L.Link.read_faults l.link;
  held : g.L.Link.held l.link ≡ g.L.Link.held l.fn.link;
  put_faults : g.L.Link.put_faults l.link ≡ g.L.Link.put_faults l.fn.link;
}

abbrev pub decreases-turn : goal.decreases-turn
decreases-turn g l = l.count - l.at

use Rattle.std.proofs.Common.{◌-◌, ◌≡◌, ◌<◌, ◌≤◌, length}
use Rattle.http_wire.specs.declared.limits.TheConstants.{MAX_RESPONSE_BYTES}
use Rattle.http_wire.proofs.ToEnd.{Grown}
use Rattle.http_wire.proofs.ended_bodies.append_to_end.Given as goal

abbrev pub invariant-turn : goal.invariant-turn
invariant-turn g l = record {
  grown : Grown l.fn.body.items l.body.items (g.L.Link.left l.fn.link) (g.L.Link.left l.link);
  low : length l.body.items ≤ MAX_RESPONSE_BYTES;
  some : 0 < length l.room;
  room : length l.room ≡ length l.fn.room;
  faults : g.L.Link.read_faults l.fn.link ≤ g.L.Link.read_faults l.link;
  held : g.L.Link.held l.link ≡ g.L.Link.held l.fn.link;
  put_faults : g.L.Link.put_faults l.link ≡ g.L.Link.put_faults l.fn.link;
}

abbrev pub decreases-turn : goal.decreases-turn
decreases-turn g l = MAX_RESPONSE_BYTES - length l.body.items

use Rattle.std.proofs.Common.{◌≡◌, ◌≤◌, ◌-◌, length}
use Rattle.http_parts.specs.declared.limits.TheConstants.{MAX_TRAILER_BYTES}
use Rattle.http_parts.proofs.Halted.{Holds}
use Rattle.http_parts.proofs.parts.read_trailer.Given as goal

abbrev pub invariant-turn : goal.invariant-turn
invariant-turn g l = record {
  holds : Holds l.fn.bytes l.bytes (g.L.Link.left l.fn.link) (g.L.Link.left l.link);
  sized : length l.room ≡ length l.fn.room;
  faults : g.L.Link.read_faults l.fn.link ≤ g.L.Link.read_faults l.link;
  held : g.L.Link.held l.link ≡ g.L.Link.held l.fn.link;
  put_faults : g.L.Link.put_faults l.link ≡ g.L.Link.put_faults l.fn.link;
}

abbrev pub decreases-turn : goal.decreases-turn
decreases-turn g l = MAX_TRAILER_BYTES - length l.bytes

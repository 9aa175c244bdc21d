use Rattle.std.proofs.Common.{◌≡◌, ◌≤◌, ◌-◌, length}
use Rattle.http_parts.specs.Pieces.{Gained}
use Rattle.http_parts.specs.Searches.{IsSearched}
use Rattle.http_parts.specs.declared.limits.TheConstants.{MAX_HEAD_BYTES}
use Rattle.http_parts.proofs.pieces.read_head.Given as goal

abbrev pub invariant-turn : goal.invariant-turn
invariant-turn g l = record {
  gained : Gained l.fn.bytes l.bytes (g.L.Link.left l.fn.link) (g.L.Link.left l.link);
  searched : IsSearched l.bytes l.search;
  sized : length l.room ≡ length l.fn.room;
  faults : g.L.Link.read_faults l.fn.link ≤ g.L.Link.read_faults l.link;
  held : g.L.Link.held l.link ≡ g.L.Link.held l.fn.link;
  put_faults : g.L.Link.put_faults l.link ≡ g.L.Link.put_faults l.fn.link;
}

abbrev pub decreases-turn : goal.decreases-turn
decreases-turn g l = MAX_HEAD_BYTES - length l.bytes

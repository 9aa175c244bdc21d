use Rattle.std.proofs.Common.{◌≡◌, ◌≤◌, ◌+◌, ◌*◌, ◌-◌, length}
use Rattle.http_parts.specs.declared.limits.TheConstants.{MAX_CHUNK_LINE_BYTES}
use Rattle.http_parts.proofs.Dropped.{FollowsDropped}
use Rattle.http_parts.proofs.dropped_chunks.drop_chunked.Given as goal

abbrev pub invariant-chunk : goal.invariant-chunk
invariant-chunk g l = record {
  follows : FollowsDropped l.limit l.left l.fn.bytes l.bytes l.passed (g.L.Link.left l.fn.link) (g.L.Link.left l.link);
  within : l.left ≤ l.limit;
  few : l.passed ≤ (MAX_CHUNK_LINE_BYTES + 3) * (l.limit - l.left);
  sized : length l.room ≡ length l.fn.room;
  faults : g.L.Link.read_faults l.fn.link ≤ g.L.Link.read_faults l.link;
  held : g.L.Link.held l.link ≡ g.L.Link.held l.fn.link;
  put_faults : g.L.Link.put_faults l.link ≡ g.L.Link.put_faults l.fn.link;
}

abbrev pub decreases-chunk : goal.decreases-chunk
decreases-chunk g l = l.left

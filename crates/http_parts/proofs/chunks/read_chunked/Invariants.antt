use Rattle.std.proofs.Common.{◌≡◌, ◌≤◌, ◌+◌, ◌*◌, ◌-◌, length}
use Rattle.http_parts.specs.declared.limits.TheConstants.{MAX_CHUNK_LINE_BYTES}
use Rattle.http_parts.proofs.Chunked.{Follows}
use Rattle.http_parts.proofs.chunks.read_chunked.Given as goal

abbrev pub invariant-chunk : goal.invariant-chunk
invariant-chunk g l = record {
  follows : Follows l.limit l.fn.bytes l.body.items l.bytes l.passed (g.L.Link.left l.fn.link) (g.L.Link.left l.link);
  within : length l.body.items ≤ l.limit;
  few : l.passed ≤ (MAX_CHUNK_LINE_BYTES + 3) * length l.body.items;
  sized : length l.room ≡ length l.fn.room;
  faults : g.L.Link.read_faults l.fn.link ≤ g.L.Link.read_faults l.link;
  held : g.L.Link.held l.link ≡ g.L.Link.held l.fn.link;
  put_faults : g.L.Link.put_faults l.link ≡ g.L.Link.put_faults l.fn.link;
}

abbrev pub decreases-chunk : goal.decreases-chunk
decreases-chunk g l = l.limit - length l.body.items

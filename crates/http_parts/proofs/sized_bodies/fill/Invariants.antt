use Rattle.std.proofs.Common.{◌-◌, ◌≡◌, ◌≤◌, ◌+◌, length}
use Rattle.http_parts.proofs.Filled.{Gains}
use Rattle.http_parts.proofs.sized_bodies.fill.Given as goal

abbrev pub invariant-turn : goal.invariant-turn
invariant-turn g l = record {
  start : l.start ≡ length l.fn.buffer.items;
  end : l.end ≡ l.start + l.count;
  begun : l.start ≤ l.at;
  inside : l.at ≤ length l.buffer.items;
  most : length l.buffer.items ≤ l.end;
  gains : Gains l.fn.buffer.items l.buffer.items l.at (g.L.Link.left l.fn.link) (g.L.Link.left l.link);
  faults : g.L.Link.read_faults l.fn.link ≤ g.L.Link.read_faults l.link;
  held : g.L.Link.held l.link ≡ g.L.Link.held l.fn.link;
  put_faults : g.L.Link.put_faults l.link ≡ g.L.Link.put_faults l.fn.link;
}

abbrev pub decreases-turn : goal.decreases-turn
decreases-turn g l = l.end - l.at

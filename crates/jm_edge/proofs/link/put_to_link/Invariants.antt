use Rattle.std.proofs.Common.{◌≡◌, ◌≤◌, ◌-◌, length, take}
use Rattle.std.specs.Io.KnownBytes.{Appends}
use Rattle.jm_edge.proofs.link.put_to_link.Given as goal

abbrev pub invariant-put : goal.invariant-put
invariant-put g l = record {
  bytes : Appends (g.L.Link.held l.fn.link) (g.L.Link.held l.link) (take l.at l.piece);
  inside : l.at ≤ length l.piece;
  faults : g.L.Link.put_faults l.link ≡ g.L.Link.put_faults l.fn.link;
  left : g.L.Link.left l.link ≡ g.L.Link.left l.fn.link;
  read_faults : g.L.Link.read_faults l.link ≡ g.L.Link.read_faults l.fn.link;
}

abbrev pub decreases-put : goal.decreases-put
decreases-put g l = length l.piece - l.at

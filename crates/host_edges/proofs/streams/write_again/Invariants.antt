use Rattle.std.specs.Io.KnownBytes.{Keeps}
use Rattle.host_edges.proofs.streams.write_again.Given as goal

abbrev pub invariant-write : goal.invariant-write
invariant-write g l = Keeps (g.W.Write.contents l.fn.inner) (g.W.Write.contents l.inner)

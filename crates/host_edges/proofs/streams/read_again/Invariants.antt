use Rattle.std.specs.Io.KnownBytes.{Keeps}
use Rattle.host_edges.proofs.streams.read_again.Given as goal

abbrev pub invariant-read : goal.invariant-read
invariant-read g l = Keeps (g.R.Read.remaining l.fn.inner) (g.R.Read.remaining l.inner)

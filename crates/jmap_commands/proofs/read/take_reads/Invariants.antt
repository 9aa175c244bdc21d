use Rattle.std.proofs.Common.{◌≤◌, length}
use Rattle.std.specs.Io.KnownBytes.{Consumes}
use Rattle.jmap_commands.proofs.read.take_reads.Given as goal

abbrev pub invariant-turns : goal.invariant-turns
invariant-turns g l = record {
  taken : Consumes (g.S.Source.left l.fn.source) (g.S.Source.left l.source) l.message;
  small : length l.message ≤ 50000000;
  turns : l._turn ≤ length l.message;
  reads : g.S.Source.faults l.fn.source ≤ g.S.Source.faults l.source;
}

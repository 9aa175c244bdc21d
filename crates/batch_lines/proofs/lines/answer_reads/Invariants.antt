use Rattle.std.proofs.Common.{◌≤◌}
use Rattle.batch_lines.proofs.Runs.{IsUnderWay}
use Rattle.batch_lines.specs.declared.limits.TheConstants.{MAX_INPUT_BYTES}
use Rattle.batch_lines.proofs.lines.answer_reads.Given as goal

abbrev pub invariant-turns : goal.invariant-turns
invariant-turns g l = record {
  way : IsUnderWay g.P.Port.answers g.P.UploadPort.uploads l.fn.port l.port (g.S.Source.left l.fn.source) (g.S.Source.left l.source) (g.O.Sink.held l.fn.out) (g.O.Sink.held l.out) l.line l.total;
  small : l.total ≤ MAX_INPUT_BYTES;
  turns : l._turn ≤ l.total;
  reads : g.S.Source.faults l.fn.source ≤ g.S.Source.faults l.source;
  writes : g.O.Sink.faults l.fn.out ≤ g.O.Sink.faults l.out;
}

use Rattle.std.proofs.Common.{◌≤◌, length}
use Rattle.batch_lines.proofs.Runs.{IsWithin}
use Rattle.batch_lines.proofs.lines.answer_piece.Given as goal

abbrev pub invariant-lines : goal.invariant-lines
invariant-lines g l = record {
  way : IsWithin g.P.Port.answers g.P.UploadPort.uploads g.P.Port.stops g.P.UploadPort.halts g.met.P.Port.stays g.met.P.UploadPort.rests l.fn.port l.port l.fn.line l.line l.piece l.rest l.replies (g.O.Sink.held l.fn.out) (g.O.Sink.held l.out);
  writes : g.O.Sink.faults l.fn.out ≤ g.O.Sink.faults l.out;
}

abbrev pub decreases-lines : goal.decreases-lines
decreases-lines g l = length l.rest

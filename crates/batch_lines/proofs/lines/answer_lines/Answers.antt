use Rattle.std.proofs.Common.{refl}
use Rattle.batch_lines.specs.Input.{seen}
use Rattle.batch_lines.proofs.Runs.{begun_none}
use Rattle.batch_lines.proofs.lines.answer_lines.Goals as goal

pub returns-in-Err-clause-begun : goal.returns-in-Err-clause-begun
returns-in-Err-clause-begun g c =
    begun_none g.P.Port.answers g.P.UploadPort.uploads g.P.Port.stops g.P.UploadPort.halts g.met.P.Port.stays g.met.P.UploadPort.rests c.args.port.now (seen g.S.Source.left g.S.Source.faults c.args.source.now c.args.source.now g.O.Sink.held g.O.Sink.faults c.args.out.now c.args.out.now) refl refl

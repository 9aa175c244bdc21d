use Rattle.std.proofs.Common.{sym, arith, subst}
use Rattle.batch_lines.proofs.Runs.{IsWithin, within_none, within_next, within_stop, piece_taken, piece_begun}
use Rattle.batch_lines.proofs.lines.answer_piece.Goals as goal

pub lines-init : goal.lines-init
lines-init g c = record {
  way = within_none g.P.Port.answers g.P.UploadPort.uploads g.P.Port.stops g.P.UploadPort.halts g.met.P.Port.stays g.met.P.UploadPort.rests c.args.port.now c.args.line.now c.args.piece.now c.clear.new.self (g.O.Sink.held c.args.out.now) c.clear.ensures;
  writes = omega arith;
}

pub lines-preserved : goal.lines-preserved
lines-preserved g c =
    let l = c.lines in
    record {
      way = subst (λ bs. IsWithin g.P.Port.answers g.P.UploadPort.uploads g.P.Port.stops g.P.UploadPort.halts g.met.P.Port.stays g.met.P.UploadPort.rests c.args.port.now c.answer_ended_line.new.port c.args.line.now bs c.args.piece.now c.in-Some.cut.rest.now c.answer_ended_line.new.replies (g.O.Sink.held c.args.out.now) (g.O.Sink.held c.answer_ended_line.new.out)) (sym c.in-Ok.ensures.begun)
          (within_next g.P.Port.answers g.P.UploadPort.uploads g.P.Port.stops g.P.UploadPort.halts g.met.P.Port.stays g.met.P.UploadPort.rests c.args.port.now l.port c.answer_ended_line.new.port c.args.line.now l.line c.args.piece.now l.rest.now c.in-Some.cut.line.now c.in-Some.cut.rest.now l.replies c.answer_ended_line.new.replies
          (g.O.Sink.held c.args.out.now) (g.O.Sink.held l.out) (g.O.Sink.held c.answer_ended_line.new.out) l.invariant.way c.in-Some.ensures.0 c.in-Some.ensures.1 c.in-Ok.ensures.ok);
      writes = omega (arith, l.invariant.writes, c.in-Ok.ensures.later);
    }

pub returns-in-Err-clause-err : goal.returns-in-Err-clause-err
returns-in-Err-clause-err g c =
    let l = c.lines in
    within_stop g.P.Port.answers g.P.UploadPort.uploads g.P.Port.stops g.P.UploadPort.halts g.met.P.Port.stays g.met.P.UploadPort.rests c.args.port.now l.port c.answer_ended_line.new.port c.args.line.now l.line c.args.piece.now l.rest.now c.in-Some.cut.line.now c.in-Some.cut.rest.now l.replies
    (g.O.Sink.held c.args.out.now) (g.O.Sink.held l.out) (g.O.Sink.held c.answer_ended_line.new.out) l.invariant.way c.in-Some.ensures.0 c.in-Some.ensures.1 c.in-Err.ensures.err

pub returns-clause-ok : goal.returns-clause-ok
returns-clause-ok g c =
    let l = c.lines in
    piece_taken g.P.Port.answers g.P.UploadPort.uploads g.P.Port.stops g.P.UploadPort.halts g.met.P.Port.stays g.met.P.UploadPort.rests c.settle.result c.hold-held.result c.args.port.now l.port c.args.line.now l.line c.hold-held.new.line c.args.piece.now l.rest.now l.replies
    (g.O.Sink.held c.args.out.now) (g.O.Sink.held l.out) (g.O.Sink.held c.settle.new.out) l.invariant.way c.in_default.ensures c.hold-held.ensures.ok c.settle.ensures.ok

pub returns-clause-err : goal.returns-clause-err
returns-clause-err g c =
    let l = c.lines in
    piece_begun g.P.Port.answers g.P.UploadPort.uploads g.P.Port.stops g.P.UploadPort.halts g.met.P.Port.stays g.met.P.UploadPort.rests c.settle.result c.args.port.now l.port c.args.line.now l.line c.args.piece.now l.rest.now l.replies
    (g.O.Sink.held c.args.out.now) (g.O.Sink.held l.out) (g.O.Sink.held c.settle.new.out) l.invariant.way c.in_default.ensures c.settle.ensures.err

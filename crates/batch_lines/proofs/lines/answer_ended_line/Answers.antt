use Rattle.std.proofs.Common.{◌++◌}
use Rattle.batch_lines.proofs.Replies.{answered_put, answered_stop, stopped_put}
use Rattle.batch_lines.proofs.lines.answer_ended_line.Goals as goal

pub returns-in-Ok-clause-ok : goal.returns-in-Ok-clause-ok
returns-in-Ok-clause-ok g c =
    answered_put g.P.Port.answers g.P.UploadPort.uploads g.P.Port.stops g.P.UploadPort.halts c.args.port.now c.end_line.new.port c.put_if_full.result (c.args.line.now ++ c.args.last.now) c.args.replies.now c.end_line.new.replies c.put_if_full.new.replies
    (g.O.Sink.held c.args.out.now) (g.O.Sink.held c.put_if_full.new.out) c.in-Ok.ensures.ok c.put_if_full.ensures.ok

pub returns-in-Ok-clause-err : goal.returns-in-Ok-clause-err
returns-in-Ok-clause-err g c =
    stopped_put g.P.Port.answers g.P.UploadPort.uploads g.P.Port.stops g.P.UploadPort.halts c.args.port.now c.end_line.new.port c.put_if_full.result (c.args.line.now ++ c.args.last.now) c.args.replies.now c.end_line.new.replies
    (g.O.Sink.held c.args.out.now) (g.O.Sink.held c.put_if_full.new.out)
    (answered_stop g.P.Port.answers g.P.UploadPort.uploads g.P.Port.stops g.P.UploadPort.halts c.args.port.now c.end_line.new.port (c.args.line.now ++ c.args.last.now) c.args.replies.now c.end_line.new.replies c.in-Ok.ensures.ok) c.put_if_full.ensures.err

pub returns-in-Err-clause-err : goal.returns-in-Err-clause-err
returns-in-Err-clause-err g c =
    stopped_put g.P.Port.answers g.P.UploadPort.uploads g.P.Port.stops g.P.UploadPort.halts c.args.port.now c.end_line.new.port c.settle.result (c.args.line.now ++ c.args.last.now) c.args.replies.now c.end_line.new.replies
    (g.O.Sink.held c.args.out.now) (g.O.Sink.held c.settle.new.out) c.in-Err.ensures.err c.settle.ensures.err

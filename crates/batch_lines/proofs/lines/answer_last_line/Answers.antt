use Rattle.std.proofs.Common.{[]}
use Rattle.batch_lines.proofs.Replies.{either_stop, settled_ok, stopped_put, line_answered, line_stopped}
use Rattle.batch_lines.proofs.lines.answer_last_line.Goals as goal

pub returns-clause-ok : goal.returns-clause-ok
returns-clause-ok g c =
    settled_ok g.P.Port.answers g.P.UploadPort.uploads g.P.Port.stops g.P.UploadPort.halts c.args.port.now c.end_line-ended.new.port c.settle.result c.end_line-ended.result c.args.line.now c.end_line-ended.new.replies
    (g.O.Sink.held c.args.out.now) (g.O.Sink.held c.settle.new.out)
    (line_answered g.P.Port.answers g.P.UploadPort.uploads g.P.Port.stops g.P.UploadPort.halts c.args.port.now c.end_line-ended.new.port c.end_line-ended.result c.args.line.now c.clear.new.self c.end_line-ended.new.replies c.clear.ensures c.end_line-ended.ensures.ok) c.settle.ensures.ok

pub returns-clause-err : goal.returns-clause-err
returns-clause-err g c =
    stopped_put g.P.Port.answers g.P.UploadPort.uploads g.P.Port.stops g.P.UploadPort.halts c.args.port.now c.end_line-ended.new.port c.settle.result c.args.line.now [] c.end_line-ended.new.replies
    (g.O.Sink.held c.args.out.now) (g.O.Sink.held c.settle.new.out)
    (either_stop g.P.Port.answers g.P.UploadPort.uploads g.P.Port.stops g.P.UploadPort.halts c.args.port.now c.end_line-ended.new.port c.end_line-ended.result c.args.line.now [] c.end_line-ended.new.replies
    (line_answered g.P.Port.answers g.P.UploadPort.uploads g.P.Port.stops g.P.UploadPort.halts c.args.port.now c.end_line-ended.new.port c.end_line-ended.result c.args.line.now c.clear.new.self c.end_line-ended.new.replies c.clear.ensures c.end_line-ended.ensures.ok)
    (line_stopped g.P.Port.answers g.P.UploadPort.uploads g.P.Port.stops g.P.UploadPort.halts c.args.port.now c.end_line-ended.new.port c.end_line-ended.result c.args.line.now c.clear.new.self c.end_line-ended.new.replies c.clear.ensures c.end_line-ended.ensures.err))
    c.settle.ensures.err

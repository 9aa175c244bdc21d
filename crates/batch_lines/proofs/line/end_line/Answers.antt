use Rattle.std.proofs.Common.{refl, ◌++◌}
use Rattle.batch_lines.proofs.Replies.{held_ok, held_err, begun_err, line_not_begun}
use Rattle.batch_lines.proofs.line.end_line.Goals as goal

pub returns-in-Ok-clause-ok : goal.returns-in-Ok-clause-ok
returns-in-Ok-clause-ok g c =
    held_ok g.P.Port.answers g.P.UploadPort.uploads g.P.Port.stops g.P.UploadPort.halts c.args.port.now c.answer_held.new.port c.answer_held.result c.args.replies.now c.answer_held.new.replies c.hold.new.line c.args.line.now c.args.last.now c.in-Ok.ensures.ok c.answer_held.ensures.ok

pub returns-in-Ok-clause-err : goal.returns-in-Ok-clause-err
returns-in-Ok-clause-err g c =
    held_err g.P.Port.answers g.P.UploadPort.uploads g.P.Port.stops g.P.UploadPort.halts c.args.port.now c.answer_held.new.port c.answer_held.result c.args.replies.now c.answer_held.new.replies c.hold.new.line c.args.line.now c.args.last.now c.in-Ok.ensures.ok c.answer_held.ensures.err

pub returns-in-Err-clause-err : goal.returns-in-Err-clause-err
returns-in-Err-clause-err g c =
    begun_err g.P.Port.answers g.P.UploadPort.uploads g.P.Port.stops g.P.UploadPort.halts c.args.port.now c.args.port.now (c.args.line.now ++ c.args.last.now) c.args.replies.now c.args.replies.now (line_not_begun g.P.Port.answers g.P.UploadPort.uploads g.P.Port.stops g.P.UploadPort.halts g.met.P.Port.stays g.met.P.UploadPort.rests c.args.port.now c.args.port.now (c.args.line.now ++ c.args.last.now) refl) refl

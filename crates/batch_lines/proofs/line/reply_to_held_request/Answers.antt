use Rattle.std.proofs.Common.{◌≡◌, []}
use Rattle.method_batch.proofs.Together.{on_ok}
use Rattle.batch_lines.proofs.Replies.{request_ok, request_err, begun_at, begun_err}
use Rattle.batch_lines.proofs.line.reply_to_held_request.Goals as goal

pub returns-in-Ok-clause-ok : goal.returns-in-Ok-clause-ok
returns-in-Ok-clause-ok g c =
    request_ok g.P.Port.answers g.P.UploadPort.uploads g.P.Port.stops g.P.UploadPort.halts c.args.port.now c.write_answer_over.new.port c.append.result c.args.line.now c.args.replies.now c.write_answer_over.new.out c.append.new.self c.requires.some c.requires.plain
    c.in-Ok.ensures.written c.append.ensures.ok

pub returns-in-Ok-clause-err : goal.returns-in-Ok-clause-err
returns-in-Ok-clause-err g c =
    request_err g.P.Port.answers g.P.UploadPort.uploads g.P.Port.stops g.P.UploadPort.halts c.args.port.now c.write_answer_over.new.port c.append.result c.args.line.now c.args.replies.now c.write_answer_over.new.out c.append.new.self c.requires.some c.requires.plain
    c.in-Ok.ensures.written c.append.ensures.err

pub returns-in-Err-clause-err : goal.returns-in-Err-clause-err
returns-in-Err-clause-err g c =
    begun_err g.P.Port.answers g.P.UploadPort.uploads g.P.Port.stops g.P.UploadPort.halts c.args.port.now c.write_answer_over.new.port c.args.line.now c.args.replies.now c.write_answer_over.new.out
    (begun_at g.P.Port.answers g.P.UploadPort.uploads g.P.Port.stops g.P.UploadPort.halts c.args.port.now c.write_answer_over.new.port c.args.line.now c.requires.some c.requires.plain c.in-Err.ensures.begun) c.in-Err.ensures.err

pub returns-in-Ok-clause-begun : goal.returns-in-Ok-clause-begun
returns-in-Ok-clause-begun g c = on_ok (c.write_answer_over.new.request ≡ []) c.append.result c.in-Ok.ensures.taken

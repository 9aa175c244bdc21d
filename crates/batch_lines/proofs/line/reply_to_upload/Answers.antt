use Rattle.std.proofs.Common.{refl}
use Rattle.jm_json.specs.Json.{tree_of}
use Rattle.batch_lines.specs.Replies.{line_text}
use Rattle.batch_lines.proofs.Replies.{written_ok, written_err, begun_err}
use Rattle.batch_lines.proofs.line.reply_to_upload.Goals as goal

pub returns-in-Ok-clause-ok : goal.returns-in-Ok-clause-ok
returns-in-Ok-clause-ok g c =
    written_ok g.P.Port.answers g.P.UploadPort.uploads g.P.Port.stops g.P.UploadPort.halts c.args.port.now c.answer_plus.new.port c.append_line.result c.args.line.now c.args.replies.now c.append_line.new.line (line_text (tree_of c.in-Ok.tree)) c.in-Ok.ensures.ok c.append_line.ensures.ok

pub returns-in-Ok-clause-err : goal.returns-in-Ok-clause-err
returns-in-Ok-clause-err g c =
    written_err g.P.Port.answers g.P.UploadPort.uploads g.P.Port.stops g.P.UploadPort.halts c.args.port.now c.answer_plus.new.port c.append_line.result c.args.line.now c.args.replies.now c.append_line.new.line (line_text (tree_of c.in-Ok.tree)) c.in-Ok.ensures.ok c.append_line.ensures.err

pub returns-in-Err-clause-err : goal.returns-in-Err-clause-err
returns-in-Err-clause-err g c =
    begun_err g.P.Port.answers g.P.UploadPort.uploads g.P.Port.stops g.P.UploadPort.halts c.args.port.now c.answer_plus.new.port c.args.line.now c.args.replies.now c.args.replies.now c.in-Err.ensures.err refl

use Rattle.jm_json.specs.Json.{tree_of}
use Rattle.jm_json.specs.JsonValues.{data_of}
use Rattle.serde_json.specs.Written.{compact_text}
use Rattle.batch_lines.proofs.Replies.{text_stands}
use Rattle.batch_lines.proofs.line.append_line.Goals as goal

pub returns-in-Ok-clause-err : goal.returns-in-Ok-clause-err
returns-in-Ok-clause-err c =
    text_stands c.append.result c.args.line.now c.write_after.new.out c.append.new.self (compact_text (data_of (tree_of c.args.tree.now))) c.in-Ok.ensures.ok c.append.ensures.err

use Rattle.std.proofs.Common.{rules}
use Rattle.serde_json.specs.View.{view}
use Rattle.serde_json.specs.Errors.{IsMemory}
use Rattle.jm_json.specs.Json.{tree_of}
use Rattle.jm_json.proofs.Readings.{refused, taken_whole, taken_invalid}
use Rattle.jm_json.proofs.reader.read_value.Goals as goal

pub returns-in-Err : goal.returns-in-Err
returns-in-Err c =
    let other : ¬ (IsMemory c.in-Err.e) = search rules in
    refused c.args.text.now (λ utf8. c.in-Err.ensures.err other)

pub returns-in-Ok-build_tree : goal.returns-in-Ok-build_tree
returns-in-Ok-build_tree c =
    taken_whole c.args.text.now (view c.in-Ok.value) (tree_of c.in-Ok-build_tree.tree) c.requires c.in-Ok.ensures.ok c.in-Ok-build_tree.ensures.whole c.in-Ok-build_tree.ensures.ok

pub returns-in-Err-NotWhole : goal.returns-in-Err-NotWhole
returns-in-Err-NotWhole c =
    taken_invalid c.args.text.now (view c.in-Ok.value) c.in-Err-NotWhole.path c.requires c.in-Ok.ensures.ok (rw c.in-Err-NotWhole.field-0-is at c.in-Err-NotWhole.ensures.err)

use Rattle.std.proofs.Common.{◌∙◌, sym, map}
use Rattle.jm_json.specs.Json.{tree_of, member_of}
use Rattle.method_batch.proofs.Plain.{nothing_of, plain_arguments}
use Rattle.method_batch.proofs.prepare.has_reference.Goals as goal

pub returns-in-Some-clause-plain : goal.returns-in-Some-clause-plain
returns-in-Some-clause-plain c e cs =
    plain_arguments (tree_of c.args.args.now) c.in-Some.members.now (map member_of c.as_slice.result.now) cs c.in-Some.ensures c.as_slice.ensures.value c.as_slice.ensures.order (sym c.has_marks.ensures ∙ e)

pub returns-in-Some-clause-nothing : goal.returns-in-Some-clause-nothing
returns-in-Some-clause-nothing c e cs =
    nothing_of (tree_of c.args.args.now) c.in-Some.members.now (map member_of c.as_slice.result.now) cs c.in-Some.ensures c.as_slice.ensures.value (sym c.has_marks.ensures ∙ e)

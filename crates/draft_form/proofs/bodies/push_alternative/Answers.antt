use Rattle.std.proofs.Common.{codes, None, ◌++◌, ap, ◌∙◌}
use Rattle.jm_json.specs.Json.{tree_of}
use Rattle.draft_form.specs.Bodies.{plain_head}
use Rattle.draft_form.specs.Structures.{ids_of, none, part_before}
use Rattle.draft_form.specs.Rows.{rows_of}
use Rattle.draft_form.proofs.RowLists.{multipart_ids, multipart_rows}
use Rattle.draft_form.proofs.bodies.push_alternative.Goals as goal

pub returns-clause-rows : goal.returns-clause-rows
returns-clause-rows c = λ later.
    let values = c.args.values.now in
    let second = part_before 1 values (tree_of c.args.html.now) none in
    multipart_rows c.args.parts.now.rows c.push_multipart.new.parts.rows c.push_part-2.new.parts.rows c.push.new.self (plain_head (codes "multipart") (codes "alternative") None)
    (part_before 1 values (tree_of c.args.text.now) second) later
    c.in_ok-push_multipart.ensures.rows
    (c.in_ok-push_part-2.ensures.rows none ∙ c.in_ok-push_part.ensures.rows second)
    c.in_ok-push.ensures.ok

pub returns-clause-ids : goal.returns-clause-ids
returns-clause-ids c = λ later.
    let values = c.args.values.now in
    let second = part_before 1 values (tree_of c.args.html.now) none in
    multipart_ids c.args.parts.now.blob_ids c.push_part-2.new.parts.blob_ids (part_before 1 values (tree_of c.args.text.now) second) later
    (c.in_ok-push_part-2.ensures.ids none ∙ c.in_ok-push_part.ensures.ids second ∙ ap (λ t. t ++ ids_of (part_before 1 values (tree_of c.args.text.now) second)) c.in_ok-push_multipart.ensures.ids)

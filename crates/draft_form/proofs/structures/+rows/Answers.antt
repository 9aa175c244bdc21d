use Rattle.std.proofs.Common.{List, ◌∷◌, [], ◌++◌, ℕ, map, sym, ap, ◌∙◌, arith}
use Rattle.jm_json.specs.Json.{tree_of}
use Rattle.draft_form.specs.Structures.{each_before, ids_of, none, part_before}
use Rattle.draft_form.specs.Rows.{rows_of}
use Rattle.draft_form.specs.Parts.{head_of}
use Rattle.draft_form.specs.declared.draft.Row.TheVariants.{Opens}
use Rattle.draft_form.proofs.PartSteps.{part_step}
use Rattle.draft_form.proofs.RowLists.{multipart_ids, multipart_rows}
use Rattle.draft_form.proofs.structures.+rows.Goals as goal

pub push_part-returns-clause-rows : goal.push_part-returns-clause-rows
push_part-returns-clause-rows t c = λ later.
    c.in_ok-push_members.ensures.rows later
    ∙ ap (λ p. c.args.parts.now.rows ++ rows_of p) (part_step c.args.levels c.args.values.now (tree_of c.args.tree.now) c.lend_members-members.result.now later (omega arith) c.lend_members-members.ensures)

pub push_part-returns-clause-ids : goal.push_part-returns-clause-ids
push_part-returns-clause-ids t c = λ later.
    c.in_ok-push_members.ensures.ids later
    ∙ ap (λ p. c.args.parts.now.blob_ids ++ ids_of p) (part_step c.args.levels c.args.values.now (tree_of c.args.tree.now) c.lend_members-members.result.now later (omega arith) c.lend_members-members.ensures)

pub push_multipart-returns-clause-rows : goal.push_multipart-returns-clause-rows
push_multipart-returns-clause-rows t c = λ later.
    let each = part_before c.args.levels c.args.values.now in
    multipart_rows c.args.parts.now.rows c.push.new.self c.push_parts.new.parts.rows c.push-2.new.self (head_of c.args.members.now)
    (each_before each _ none) later
    (c.in_ok-push.ensures.ok ∙ ap (λ h. c.args.parts.now.rows ++ Opens h ∷ []) c.in_ok-head.ensures)
    (c.in_ok-push_parts.ensures.rows none ∙ ap (λ ts. c.push.new.self ++ rows_of (each_before each ts none)) c.find_items.ensures)
    c.in_ok-push-2.ensures.ok

pub push_multipart-returns-clause-ids : goal.push_multipart-returns-clause-ids
push_multipart-returns-clause-ids t c = λ later.
    let each = part_before c.args.levels c.args.values.now in
    multipart_ids c.args.parts.now.blob_ids c.push_parts.new.parts.blob_ids (each_before each _ none) later
    (c.in_ok-push_parts.ensures.ids none ∙ ap (λ ts. c.args.parts.now.blob_ids ++ ids_of (each_before each ts none)) c.find_items.ensures)

use Rattle.std.proofs.Common.{codes, map, None, [], ◌++◌, Bor, ap, sym, ◌∙◌, option_map}
use Rattle.std.proofs.lemmas.List.{append-nil}
use Rattle.jm_json.specs.Json.{tree_of}
use Rattle.jm_json.specs.declared.tree.Json.{Json}
use Rattle.draft_form.specs.Bodies.{plain_head, text_before}
use Rattle.draft_form.specs.Structures.{each_before, ids_of, none, part_before}
use Rattle.draft_form.specs.Rows.{rows_of}
use Rattle.draft_form.proofs.RowLists.{multipart_ids, multipart_rows}
use Rattle.draft_form.proofs.bodies.push_mixed.Goals as goal

pub returns-clause-rows : goal.returns-clause-rows
returns-clause-rows c =
    let values = c.args.values.now in
    let text = option_map (λ (j : Bor Json). tree_of j.now) c.args.text in
    let html = option_map (λ (j : Bor Json). tree_of j.now) c.args.html in
    let attached = each_before (part_before 1 values) (map tree_of c.args.attached.now) none in
    sym (append-nil c.push.new.self)
    ∙ multipart_rows c.args.parts.now.rows c.push_multipart.new.parts.rows c.push_parts.new.parts.rows c.push.new.self (plain_head (codes "multipart") (codes "mixed") None)
    (text_before values text html attached) none
    c.in_ok-push_multipart.ensures.rows
    (c.in_ok-push_parts.ensures.rows none ∙ c.in_ok-push_text.ensures.rows attached)
    c.in_ok-push.ensures.ok

pub returns-clause-ids : goal.returns-clause-ids
returns-clause-ids c =
    let values = c.args.values.now in
    let text = option_map (λ (j : Bor Json). tree_of j.now) c.args.text in
    let html = option_map (λ (j : Bor Json). tree_of j.now) c.args.html in
    let attached = each_before (part_before 1 values) (map tree_of c.args.attached.now) none in
    sym (append-nil c.push_parts.new.parts.blob_ids)
    ∙ multipart_ids c.args.parts.now.blob_ids c.push_parts.new.parts.blob_ids (text_before values text html attached) none
    (c.in_ok-push_parts.ensures.ids none ∙ c.in_ok-push_text.ensures.ids attached ∙ ap (λ t. t ++ ids_of (text_before values text html attached)) c.in_ok-push_multipart.ensures.ids)

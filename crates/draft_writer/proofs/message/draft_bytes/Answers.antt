use Rattle.std.proofs.Common.{[], ◌++◌, subst, ap, ◌∙◌}
use Rattle.std.specs.List.{flat_map}
use Rattle.mime_lines.specs.Written.{field_line}
use Rattle.draft_writer.specs.Fields.{message_fields}
use Rattle.draft_writer.specs.Marks.{IsNumberFor}
use Rattle.draft_writer.specs.Steps.{rows_text}
use Rattle.draft_writer.proofs.Endings.{ending_is}
use Rattle.draft_writer.proofs.Written.{draft_is}
use Rattle.draft_writer.proofs.message.draft_bytes.Goals as goal

pub returns : goal.returns
returns c = λ ms same.
    let n = c.in_ok-boundary.boundary in
    let fields = flat_map field_line (message_fields c.args.draft.now c.args.number c.args.moment) in
    ending_is ms c.args.blobs.now c.args.number c.args.moment c.write_rows.result _
    (λ t e. draft_is ms c.args.draft.now n c.args.number c.args.moment c.args.blobs.now t same
    (subst (λ r. IsNumberFor n c.args.blobs.now r) c.as_slice-rows.ensures c.in_ok-boundary.ensures)
    (e ∙ ap (λ h. h ++ rows_text n 1 [] c.args.blobs.now c.as_slice-rows.result.now) (c.in_ok-push_header.ensures ∙ ap (λ o. o ++ fields) c.new-header.ensures.items)
    ∙ ap (λ r. fields ++ rows_text n 1 [] c.args.blobs.now r) c.as_slice-rows.ensures))
    c.write_rows.ensures

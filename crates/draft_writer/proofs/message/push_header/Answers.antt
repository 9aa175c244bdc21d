use Rattle.std.proofs.Common.{◌++◌, map, ap, ◌∙◌}
use Rattle.std.specs.List.{flat_map}
use Rattle.mime_lines.specs.Written.{field_line}
use Rattle.draft_writer.specs.Fields.{date_field, date_or, field_of, id_field, ids_or, version_field}
use Rattle.draft_writer.proofs.Texts.{header_steps}
use Rattle.draft_writer.proofs.message.push_header.Goals as goal

pub returns : goal.returns
returns c =
    header_steps (map field_of c.args.draft.now.first) (map field_of c.args.draft.now.later) (date_field (date_or c.args.moment c.args.draft.now.date))
    (field_of (id_field (ids_or c.args.number c.args.moment c.args.draft.now.message_id))) version_field
    c.args.out.now.items c.push_fields.new.out.items c.push_date_or.new.out.items c.push_ids_or.new.out.items c.push_fields-2.new.out.items c.push_version.new.out.items
    (c.in_ok-push_fields.ensures ∙ ap (λ fs. c.args.out.now.items ++ flat_map field_line (map field_of fs)) c.as_slice.ensures)
    c.in_ok-push_date_or.ensures
    c.in_ok-push_ids_or.ensures
    (c.in_ok-push_fields-2.ensures ∙ ap (λ fs. c.push_ids_or.new.out.items ++ flat_map field_line (map field_of fs)) c.as_slice-2.ensures)
    c.in_ok-push_version.ensures

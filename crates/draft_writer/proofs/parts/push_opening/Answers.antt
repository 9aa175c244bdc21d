use Rattle.std.proofs.Common.{◌++◌, Some, ap, ◌∙◌}
use Rattle.std.specs.List.{flat_map}
use Rattle.mime_lines.specs.Written.{field_line}
use Rattle.mime_type.specs.HeadText.{part_fields}
use Rattle.mime_tree.specs.Boundaries.{boundary_text}
use Rattle.mime_writer.specs.Heads.{head_text}
use Rattle.draft_writer.specs.Parts.{coding_within}
use Rattle.draft_writer.specs.Steps.{holds_raw}
use Rattle.draft_writer.proofs.Texts.{opening_steps}
use Rattle.draft_writer.proofs.parts.push_opening.Goals as goal

pub returns : goal.returns
returns c =
    let b = boundary_text c.args.number c.args.k in
    opening_steps (flat_map field_line (part_fields (head_text c.args.head.now (Some b) (coding_within (holds_raw 0 c.args.more.now)))))
    c.args.out.now.items c.push_head.new.out.items c.extend_from_slice.new.self.items
    (c.in_ok-push_head.ensures
    ∙ ap (λ t. c.args.out.now.items ++ flat_map field_line (part_fields (head_text c.args.head.now (Some t) c.find_coding-coding.result))) c.in_ok-boundary.ensures
    ∙ ap (λ k. c.args.out.now.items ++ flat_map field_line (part_fields (head_text c.args.head.now (Some b) k))) c.find_coding-coding.ensures
    ∙ ap (λ r. c.args.out.now.items ++ flat_map field_line (part_fields (head_text c.args.head.now (Some b) (coding_within r)))) c.holds_raw.ensures)
    (c.in_ok-extend_from_slice.ensures.items ∙ ap (λ t. c.push_head.new.out.items ++ t) c.as_bytes.ensures.value)

use Rattle.std.proofs.Common.{◌++◌, Some, None, ap, ◌∙◌}
use Rattle.std.specs.List.{flat_map}
use Rattle.mime_lines.specs.Written.{field_line}
use Rattle.mime_type.specs.HeadText.{part_fields}
use Rattle.mime_writer.specs.Heads.{head_text}
use Rattle.draft_writer.specs.Parts.{bytes_of, coding_of, encoded_body}
use Rattle.draft_writer.proofs.Texts.{leaf_steps}
use Rattle.draft_writer.proofs.leaves.push_leaf.Goals as goal

pub returns : goal.returns
returns c =
    let coding = coding_of c.args.head.now c.args.content.now in
    leaf_steps (head_text c.args.head.now None (Some coding)) c.args.out.now.items c.push_head.new.out.items c.extend_from_slice.new.self.items c.push_encoded.new.out.items
    (encoded_body coding (bytes_of c.args.blobs.now c.args.content.now))
    (c.in_ok-push_head.ensures ∙ ap (λ k. c.args.out.now.items ++ flat_map field_line (part_fields (head_text c.args.head.now None (Some k)))) c.find_coding-coding.ensures)
    (c.in_ok-extend_from_slice.ensures.items ∙ ap (λ t. c.push_head.new.out.items ++ t) c.as_bytes.ensures.value)
    (c.in_ok-push_encoded.ensures ∙ ap (λ k. c.extend_from_slice.new.self.items ++ encoded_body k c.find_bytes.result.now) c.find_coding-coding.ensures
    ∙ ap (λ t. c.extend_from_slice.new.self.items ++ encoded_body coding t) c.find_bytes.ensures)

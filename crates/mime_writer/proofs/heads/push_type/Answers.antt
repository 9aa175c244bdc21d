use Rattle.std.proofs.Common.{◌++◌, codes, None, ap, ◌∙◌}
use Rattle.std.specs.Prelude.{option_map}
use Rattle.mime_type.specs.HeadText.{parameter_if, parameters_text}
use Rattle.mime_writer.specs.Heads.{head_text, name_parameter}
use Rattle.mime_writer.proofs.HeadFields.{type_steps}
use Rattle.mime_writer.proofs.heads.push_type.Goals as goal

pub returns : goal.returns
returns c =
    type_steps (head_text c.args.head.now (option_map (λ t. t.now) c.args.boundary) None) c.args.out.now.items
    c.extend_from_slice.new.self.items c.extend_from_slice-2.new.self.items c.push.new.self.items c.extend_from_slice-3.new.self.items c.push_charset.new.out.items c.push_name_parameter.new.out.items c.push_boundary.new.out.items c.extend_from_slice-4.new.self.items
    (c.in_ok-extend_from_slice.ensures.items ∙ ap (λ t. c.args.out.now.items ++ t) c.as_bytes.ensures.value)
    (c.in_ok-extend_from_slice-2.ensures.items ∙ ap (λ t. c.extend_from_slice.new.self.items ++ t) c.as_slice.ensures)
    c.in_ok-push.ensures.items
    (c.in_ok-extend_from_slice-3.ensures.items ∙ ap (λ t. c.push.new.self.items ++ t) c.as_slice-2.ensures)
    (c.in_ok-push_charset.ensures ∙ ap (λ o. c.extend_from_slice-3.new.self.items ++ parameters_text (parameter_if (codes "charset") o)) c.as_ref.ensures.value)
    (c.in_ok-push_name_parameter.ensures ∙ ap (λ t. c.push_charset.new.out.items ++ name_parameter t (option_map (λ t. t.now) c.as_ref-2.result)) c.as_bytes-2.ensures.value
    ∙ ap (λ o. c.push_charset.new.out.items ++ name_parameter (codes "name") o) c.as_ref-2.ensures.value)
    c.in_ok-push_boundary.ensures
    (c.in_ok-extend_from_slice-4.ensures.items ∙ ap (λ t. c.push_boundary.new.out.items ++ t) c.as_bytes-3.ensures.value)

use Rattle.std.proofs.Common.{◌++◌, sym, ap, ◌∙◌}
use Rattle.std.specs.Prelude.{option_map}
use Rattle.mime_writer.specs.Heads.{disposition_field, name_parameter}
use Rattle.mime_writer.proofs.HeadFields.{disposition_steps}
use Rattle.mime_writer.proofs.heads.push_disposition.Goals as goal

pub returns : goal.returns
returns c =
    disposition_steps (option_map (λ t. t.now) c.args.name) c.args.out.now.items c.extend_from_slice.new.self.items c.extend_from_slice-2.new.self.items c.push_name_parameter.new.out.items c.extend_from_slice-3.new.self.items
    c.in-Some.disposition.now
    (c.in_ok-extend_from_slice.ensures.items ∙ ap (λ t. c.args.out.now.items ++ t) c.as_bytes.ensures.value)
    (c.in_ok-extend_from_slice-2.ensures.items ∙ ap (λ t. c.extend_from_slice.new.self.items ++ t) c.as_bytes-2.ensures.value)
    (c.in_ok-push_name_parameter.ensures ∙ ap (λ t. c.extend_from_slice-2.new.self.items ++ name_parameter t (option_map (λ t. t.now) c.args.name)) c.as_bytes-3.ensures.value)
    (c.in_ok-extend_from_slice-3.ensures.items ∙ ap (λ t. c.push_name_parameter.new.out.items ++ t) c.as_bytes-4.ensures.value)
    ∙ ap (λ o. c.args.out.now.items ++ disposition_field (option_map (λ t. t.now) o) (option_map (λ t. t.now) c.args.name)) (sym c.in-Some.is)

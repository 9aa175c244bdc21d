use Rattle.std.proofs.Common.{◌++◌, codes, sym, ap, ◌∙◌}
use Rattle.mime_lines.specs.Written.{crlf}
use Rattle.std.specs.Prelude.{option_map}
use Rattle.mime_writer.specs.Heads.{location_field}
use Rattle.mime_writer.proofs.HeadFields.{three}
use Rattle.mime_writer.proofs.heads.push_location.Goals as goal

pub returns : goal.returns
returns c =
    three c.args.out.now.items c.extend_from_slice.new.self.items c.extend_from_slice-2.new.self.items c.extend_from_slice-3.new.self.items
    (codes "Content-Location: ") c.in-Some.location.now crlf
    (c.in_ok-extend_from_slice.ensures.items ∙ ap (λ t. c.args.out.now.items ++ t) c.as_bytes.ensures.value)
    (c.in_ok-extend_from_slice-2.ensures.items ∙ ap (λ t. c.extend_from_slice.new.self.items ++ t) c.as_bytes-2.ensures.value)
    (c.in_ok-extend_from_slice-3.ensures.items ∙ ap (λ t. c.extend_from_slice-2.new.self.items ++ t) c.as_bytes-3.ensures.value)
    ∙ ap (λ o. c.args.out.now.items ++ location_field (option_map (λ t. t.now) o)) (sym c.in-Some.is)

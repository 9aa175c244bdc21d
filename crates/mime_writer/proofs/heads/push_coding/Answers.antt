use Rattle.std.proofs.Common.{◌++◌, codes, sym, ap, ◌∙◌}
use Rattle.mime_lines.specs.Written.{crlf}
use Rattle.mime_type.specs.HeadText.{coding_name}
use Rattle.mime_writer.specs.Heads.{coding_field}
use Rattle.mime_writer.proofs.HeadFields.{three}
use Rattle.mime_writer.proofs.heads.push_coding.Goals as goal

pub returns : goal.returns
returns c =
    three c.args.out.now.items c.extend_from_slice.new.self.items c.extend_from_slice-2.new.self.items c.extend_from_slice-3.new.self.items
    (codes "Content-Transfer-Encoding: ") (coding_name c.in-Some.coding) crlf
    (c.in_ok-extend_from_slice.ensures.items ∙ ap (λ t. c.args.out.now.items ++ t) c.as_bytes.ensures.value)
    (c.in_ok-extend_from_slice-2.ensures.items ∙ ap (λ t. c.extend_from_slice.new.self.items ++ t) c.find_coding_name.ensures)
    (c.in_ok-extend_from_slice-3.ensures.items ∙ ap (λ t. c.extend_from_slice-2.new.self.items ++ t) c.as_bytes-2.ensures.value)
    ∙ ap (λ o. c.args.out.now.items ++ coding_field o) (sym c.in-Some.is)

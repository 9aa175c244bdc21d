use Rattle.std.proofs.Common.{sym, arith, ◌∙◌}
use Rattle.mime_lines.specs.Fields.{header}
use Rattle.mime_lines.specs.Lines.{lines}
use Rattle.message_texts.proofs.HeaderLines.{field_of_name, named_by_look, other_line}
use Rattle.message_texts.proofs.header_scan.find_in_line.Goals as goal

pub returns-then-not-is_field_named : goal.returns-then-not-is_field_named
returns-then-not-is_field_named c =
    other_line c.args.name.now c.args.needle.now c.args.line.now (header (lines c.args.after.now)) (omega arith) (sym c.is_field_named.ensures ∙ c.if-not-is_field_named.true)

pub find_in_field-requires-clause-field : goal.find_in_field-requires-clause-field
find_in_field-requires-clause-field c = field_of_name c.args.name.now c.args.line.now (sym c.is_field_named.ensures ∙ c.if-not-is_field_named.false)

pub returns : goal.returns
returns c =
    named_by_look c.args.name.now c.args.needle.now c.args.line.now c.args.after.now c.find_in_field.result (sym c.is_field_named.ensures ∙ c.if-not-is_field_named.false) c.find_in_field.ensures.value c.find_in_field.ensures.alone

use Rattle.std.proofs.Common.{◌++◌, ap, ◌∙◌, arith}
use Rattle.mime_writer.proofs.QuotedLines.{byte_breaks, byte_stays}
use Rattle.mime_writer.proofs.quoted.push_byte.Goals as goal

pub returns-then-column-size-clause-text : goal.returns-then-column-size-clause-text
returns-then-column-size-clause-text c =
    byte_stays c.args.out.now.items c.push_text.new.out.items c.args.more.now c.args.column c.args.byte c.count_characters-size.result c.find_room.result c.is_empty-is_last.result c.is_plain-is_plain.result
    c.is_empty-is_last.ensures c.is_plain-is_plain.ensures c.count_characters-size.ensures.value c.find_room.ensures.value (omega (arith, c.if-column-size.true)) c.in_ok-push_text.ensures

pub returns-clause-text : goal.returns-clause-text
returns-clause-text c =
    byte_breaks c.args.out.now.items c.extend_from_slice.new.self.items c.push_text-2.new.out.items c.args.more.now c.args.column c.args.byte c.count_characters-size.result c.find_room.result c.is_empty-is_last.result c.is_plain-is_plain.result
    c.is_empty-is_last.ensures c.is_plain-is_plain.ensures c.count_characters-size.ensures.value c.find_room.ensures.value (omega (arith, c.if-column-size.false))
    (c.in_ok-extend_from_slice.ensures.items ∙ ap (λ t. c.args.out.now.items ++ t) c.as_bytes.ensures.value) c.in_ok-push_text-2.ensures

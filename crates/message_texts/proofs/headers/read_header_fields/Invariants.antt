use Rattle.std.proofs.Common.{◌≡◌, ◌++◌, map, drop}
use Rattle.mime_lines.specs.FieldTexts.{read_at}
use Rattle.message_texts.proofs.headers.read_header_fields.Given as goal

abbrev pub invariant-loop-span : goal.invariant-loop-span
invariant-loop-span l = l.all.items ++ map (read_at l.bytes) (drop l.span-index l.spans) ≡ map (read_at l.bytes) l.spans

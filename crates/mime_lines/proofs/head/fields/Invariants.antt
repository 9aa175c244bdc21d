use Rattle.std.proofs.Common.{◌≡◌, ◌+◌, ◌++◌, length}
use Rattle.mime_lines.specs.Lines.{lines}
use Rattle.mime_lines.specs.Fields.{fields_of, body_of, spans, joined, header, body_at}
use Rattle.mime_lines.proofs.head.fields.Given as goal

abbrev pub invariant-loop-rest : goal.invariant-loop-rest
invariant-loop-rest l = record {
  size : l.at + length l.rest ≡ length l.bytes;
  fields : l.fields ++ spans l.at (joined (header (lines l.rest))) ≡ fields_of l.bytes;
  body : body_at l.at (lines l.rest) ≡ body_of l.bytes;
}

abbrev pub decreases-loop-rest : goal.decreases-loop-rest
decreases-loop-rest l = length l.rest

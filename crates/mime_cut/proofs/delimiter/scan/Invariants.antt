use Rattle.std.proofs.Common.{◌≡◌, ◌+◌, ◌≤◌, drop, length}
use Rattle.mime_lines.specs.Lines.{lines}
use Rattle.mime_cut.specs.UpToDelimiter.{up_to_delimiter, lines_after}
use Rattle.mime_cut.proofs.delimiter.scan.Given as goal

abbrev pub invariant-loop-line : goal.invariant-loop-line
invariant-loop-line l = record {
  found : up_to_delimiter l.boundary l.before l.size (lines l.rest) ≡ up_to_delimiter l.boundary 0 0 (lines l.bytes);
  lines_after : lines_after l.boundary (lines l.rest) ≡ lines_after l.boundary (lines l.bytes);
  rest : l.rest ≡ drop l.size l.bytes;
  ordered : l.before ≤ l.size;
  all : l.size + length l.rest ≡ length l.bytes;
}

abbrev pub decreases-loop-line : goal.decreases-loop-line
decreases-loop-line l = length l.rest

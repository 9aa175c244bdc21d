use Rattle.std.proofs.Common.{◌≡◌, ◌+◌, length, drop}
use Rattle.mime_lines.specs.Lines.{lines}
use Rattle.http_parts.specs.Heads.{empty_bytes, after_empty}
use Rattle.http_parts.proofs.heads.count_empty.Given as goal

abbrev pub invariant-line : goal.invariant-line
invariant-line l = record {
  counted : l.count + empty_bytes (lines l.rest) ≡ empty_bytes (lines l.bytes);
  same : after_empty (lines l.rest) ≡ after_empty (lines l.bytes);
  is_rest : l.rest ≡ drop l.count l.bytes;
  sized : l.count + length l.rest ≡ length l.bytes;
}

abbrev pub decreases-line : goal.decreases-line
decreases-line l = length l.rest

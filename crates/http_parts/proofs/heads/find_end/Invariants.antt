use Rattle.std.proofs.Common.{◌≡◌, ◌≤◌, ◌+◌, length, option_map}
use Rattle.mime_lines.specs.Lines.{lines}
use Rattle.http_parts.specs.Heads.{head_size}
use Rattle.http_parts.specs.Searches.{after}
use Rattle.http_parts.proofs.heads.find_end.Given as goal

abbrev pub invariant-line : goal.invariant-line
invariant-line l = record {
  found : option_map (after l.size.bytes l.size.lines) (head_size (lines l.rest)) ≡ head_size (lines l.bytes);
  sized : l.size.bytes + length l.rest ≡ length l.bytes;
  fewer : l.size.lines + length l.rest ≤ length l.bytes;
}

abbrev pub decreases-line : goal.decreases-line
decreases-line l = length l.rest

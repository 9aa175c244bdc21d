use Rattle.std.proofs.Common.{◌≡◌, ◌+◌, ◌*◌, ◌≤◌, length}
use Rattle.std.specs.List.{flat_map}
use Rattle.mime_lines.specs.Lines.{lines}
use Rattle.mime_codec.specs.Escapes.{escapes}
use Rattle.mime_codec.specs.Quoted.{quoted_line, quoted_printable}
use Rattle.mime_codec.proofs.size.count_all_cut.Given as goal

abbrev pub invariant-loop-rest : goal.invariant-loop-rest
invariant-loop-rest l = record {
  same : l.count + length l.rest + (length (quoted_printable l.bytes) + 2 * escapes l.bytes) ≡ length l.bytes + (length (flat_map quoted_line (lines l.rest)) + 2 * escapes l.rest);
  within : l.count + length l.rest ≤ length l.bytes;
}

abbrev pub decreases-loop-rest : goal.decreases-loop-rest
decreases-loop-rest l = length l.rest

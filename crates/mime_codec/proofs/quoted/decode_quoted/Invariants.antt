use Rattle.std.proofs.Common.{◌≡◌, ◌++◌, length}
use Rattle.std.specs.List.{flat_map}
use Rattle.mime_lines.specs.Lines.{lines}
use Rattle.mime_codec.specs.Quoted.{quoted_line, quoted_printable}
use Rattle.mime_codec.proofs.quoted.decode_quoted.Given as goal

abbrev pub invariant-loop-rest : goal.invariant-loop-rest
invariant-loop-rest l = l.out.items ++ flat_map quoted_line (lines l.rest) ≡ quoted_printable l.bytes

abbrev pub decreases-loop-rest : goal.decreases-loop-rest
decreases-loop-rest l = length l.rest

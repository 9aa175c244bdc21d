use Rattle.std.proofs.Common.{◌≡◌, ◌+◌, ◌++◌, take, drop, length}
use Rattle.mime_lines.specs.Lines.{lines}
use Rattle.mime_lines.specs.Scan.{followers, others}
use Rattle.mime_lines.proofs.scan.count_folded_bytes.Given as goal

abbrev pub invariant-loop-left : goal.invariant-loop-left
invariant-loop-left l = record {
  size : l.len + length l.left ≡ length l.rest;
  left : l.left ≡ drop l.len l.rest;
  front : followers (lines l.rest) ≡ take l.len l.rest ++ followers (lines l.left);
  back : others (lines l.left) ≡ others (lines l.rest);
}

abbrev pub decreases-loop-left : goal.decreases-loop-left
decreases-loop-left l = length l.left

use Rattle.std.proofs.Common.{◌≡◌, ◌≤◌, ◌++◌, length}
use Rattle.mime_codec.specs.QuotedText.{broken, byte_texts, line_text}
use Rattle.mime_writer.proofs.quoted.push_line.Given as goal

abbrev pub invariant-loop-byte : goal.invariant-loop-byte
invariant-loop-byte l = record {
  within : l.column ≤ 76;
  same : l.out.items ++ broken l.column (byte_texts l.rest) ≡ l.fn.out.items ++ line_text l.fn.line;
}

abbrev pub decreases-loop-byte : goal.decreases-loop-byte
decreases-loop-byte l = length l.rest

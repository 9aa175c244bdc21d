use Rattle.std.proofs.Common.{◌≡◌, ◌++◌, length}
use Rattle.mime_codec.specs.QuotedText.{quoted_printable_text}
use Rattle.mime_writer.proofs.quoted.push_quoted_printable.Given as goal

abbrev pub invariant-loop-line : goal.invariant-loop-line
invariant-loop-line l = l.out.items ++ quoted_printable_text l.rest ≡ l.fn.out.items ++ quoted_printable_text l.fn.bytes

abbrev pub decreases-loop-line : goal.decreases-loop-line
decreases-loop-line l = length l.rest

use Rattle.std.proofs.Common.{◌≡◌, ◌++◌, length}
use Rattle.mime_codec.specs.Base64Text.{base64_text}
use Rattle.mime_writer.proofs.base64.push_base64.Given as goal

abbrev pub invariant-loop-rest : goal.invariant-loop-rest
invariant-loop-rest l = l.out.items ++ base64_text l.rest ≡ l.fn.out.items ++ base64_text l.fn.bytes

abbrev pub decreases-loop-rest : goal.decreases-loop-rest
decreases-loop-rest l = length l.rest

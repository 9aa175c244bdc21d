use Rattle.std.proofs.Common.{◌≡◌, ◌++◌, length}
use Rattle.mime_codec.specs.Base64Text.{encoded}
use Rattle.mime_writer.proofs.base64.push_encoded.Given as goal

abbrev pub invariant-loop-rest : goal.invariant-loop-rest
invariant-loop-rest l = l.out.items ++ encoded l.rest ≡ l.fn.out.items ++ encoded l.fn.bytes

abbrev pub decreases-loop-rest : goal.decreases-loop-rest
decreases-loop-rest l = length l.rest

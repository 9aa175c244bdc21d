use Rattle.std.proofs.Common.{◌≡◌, ◌++◌, length}
use Rattle.mime_codec.specs.Base64.{letters, packed, base64}
use Rattle.mime_codec.specs.WaitingLetters.{before, AreSmall}
use Rattle.mime_codec.proofs.base64.decode_base64.Given as goal

abbrev pub invariant-loop-byte : goal.invariant-loop-byte
invariant-loop-byte l = record {
  small : AreSmall l.waiting;
  bytes : l.out.items ++ packed (before l.waiting (letters l.left)) ≡ base64 l.bytes;
}

abbrev pub decreases-loop-byte : goal.decreases-loop-byte
decreases-loop-byte l = length l.left

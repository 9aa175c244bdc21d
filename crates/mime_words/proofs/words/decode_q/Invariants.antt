use Rattle.std.proofs.Common.{◌≡◌, ◌++◌, drop, map}
use Rattle.mime_words.specs.Words.{spaced}
use Rattle.mime_words.proofs.words.decode_q.Given as goal

abbrev pub invariant-loop-byte : goal.invariant-loop-byte
invariant-loop-byte l = l.text.items ++ map spaced (drop l.byte-index l.encoded) ≡ map spaced l.encoded

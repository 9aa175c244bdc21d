use Rattle.std.proofs.Common.{◌≡◌, ◌++◌, length, map, string_bytes}
use Rattle.std.specs.Str.{encode_utf8_all}
use Rattle.mime_words.specs.Charsets.{ascii_character}
use Rattle.mime_words.proofs.charset.decode_ascii.Given as goal

abbrev pub invariant-loop-left : goal.invariant-loop-left
invariant-loop-left l = string_bytes l.text ++ encode_utf8_all (map ascii_character l.left) ≡ encode_utf8_all (map ascii_character l.bytes)

abbrev pub decreases-loop-left : goal.decreases-loop-left
decreases-loop-left l = length l.left

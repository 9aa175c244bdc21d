use Rattle.std.proofs.Common.{◌≡◌, ◌++◌, drop, map, string_bytes}
use Rattle.std.specs.Str.{encode_utf8_all}
use Rattle.mime_words.specs.Charsets.{ascii_character}
use Rattle.mime_words.proofs.charset.push_ascii.Given as goal

abbrev pub invariant-loop-byte : goal.invariant-loop-byte
invariant-loop-byte l =
    string_bytes l.text ++ encode_utf8_all (map ascii_character (drop l.byte-index l.block)) ≡ string_bytes l.fn.text ++ encode_utf8_all (map ascii_character l.block)

use Rattle.std.proofs.Common.{map, string_bytes}
use Rattle.std.specs.Str.{encode_utf8_all}
use Rattle.mime_words.specs.Charsets.{ascii_character}
use Rattle.mime_words.proofs.Bytes.{added, ascii_splits}
use Rattle.mime_words.proofs.charset.decode_ascii.Goals as goal

pub loop-left-preserved : goal.loop-left-preserved
loop-left-preserved c =
    added (λ xs. encode_utf8_all (map ascii_character xs)) ascii_splits (string_bytes c.loop-left.text) (string_bytes c.push_ascii.new.text) c.loop-left.left.now
    c.split_block.result.0.now c.split_block.result.1.now _ c.in_ok-push_ascii.ensures c.split_block.ensures.whole c.loop-left.invariant

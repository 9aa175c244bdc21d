use Rattle.std.proofs.Common.{string_bytes}
use Rattle.std.specs.Str.{encode_utf8_all}
use Rattle.std.proofs.lemmas.Str.{encodes-append}
use Rattle.mime_words.proofs.Bytes.{added}
use Rattle.mime_words.proofs.charset.decode_latin.Goals as goal

pub loop-left-preserved : goal.loop-left-preserved
loop-left-preserved c =
    added encode_utf8_all encodes-append (string_bytes c.loop-left.text) (string_bytes c.push_latin.new.text) c.loop-left.left.now
    c.split_block.result.0.now c.split_block.result.1.now _ c.in_ok-push_latin.ensures c.split_block.ensures.whole c.loop-left.invariant

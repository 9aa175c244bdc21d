use Rattle.std.proofs.Common.{◌≡◌, length}
use Rattle.mime_words.specs.WrittenWords.{has_word_start}
use Rattle.mime_writer.proofs.words.has_word_start.Given as goal

abbrev pub invariant-loop-more : goal.invariant-loop-more
invariant-loop-more l = has_word_start l.rest ≡ has_word_start l.fn.bytes

abbrev pub decreases-loop-more : goal.decreases-loop-more
decreases-loop-more l = length l.rest

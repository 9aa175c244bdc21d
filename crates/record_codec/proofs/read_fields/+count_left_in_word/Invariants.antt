use Rattle.std.proofs.Common.{length}
use Rattle.record_codec.proofs.read_fields.+count_left_in_word.Given as goal

abbrev pub decreases-count_left_in_word : goal.decreases-count_left_in_word
decreases-count_left_in_word l = length l.lows.now

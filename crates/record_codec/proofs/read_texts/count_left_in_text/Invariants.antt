use Rattle.std.proofs.Common.{◌≡◌, drop}
use Rattle.record_codec.specs.NextBytes.{left_in_text, at_first}
use Rattle.record_codec.proofs.read_texts.count_left_in_text.Given as goal

abbrev pub invariant-loop-at : goal.invariant-loop-at
invariant-loop-at l = left_in_text l.rest_of_text (drop l.at l.bound) (drop l.at l.bytes) ≡ left_in_text (at_first l.fn.room l.fn.tight l.bound) l.bound l.bytes

use Rattle.std.proofs.Common.{◌≡◌, ◌-◌}
use Rattle.record_codec.specs.Reading.{items_at}
use Rattle.record_codec.specs.Readers.{rising_number, next_number}
use Rattle.record_codec.proofs.Loops.{with_front}
use Rattle.record_codec.proofs.read_lists.read_counted_rising_numbers.Given as goal

abbrev pub invariant-loop-taken : goal.invariant-loop-taken
invariant-loop-taken l = with_front l.numbers.items (items_at rising_number next_number l.low (l.count - l.taken) l.rest) ≡ items_at rising_number next_number 0 l.count l.bytes

use Rattle.std.proofs.Common.{◌≡◌, ◌-◌}
use Rattle.record_codec.specs.Reading.{items_at}
use Rattle.record_codec.specs.Readers.{any_at, same, number_at}
use Rattle.record_codec.proofs.Loops.{with_front}
use Rattle.record_codec.proofs.read_lists.read_counted_numbers.Given as goal

abbrev pub invariant-loop : goal.invariant-loop
invariant-loop l = with_front l.numbers.items (items_at (any_at number_at) same tt (l.count - l.counter) l.rest) ≡ items_at (any_at number_at) same tt l.count l.bytes

use Rattle.std.proofs.Common.{◌≡◌, ◌-◌}
use Rattle.record_codec.specs.Reading.{items_at}
use Rattle.record_codec.specs.Readers.{any_at, same, edit_at}
use Rattle.record_codec.proofs.Loops.{with_front}
use Rattle.record_codec.proofs.read_records.read_counted_edits.Given as goal

abbrev pub invariant-loop : goal.invariant-loop
invariant-loop l = with_front l.edits.items (items_at (any_at edit_at) same tt (l.count - l.counter) l.rest) ≡ items_at (any_at edit_at) same tt l.count l.bytes

use Rattle.std.proofs.Common.{◌≡◌, ◌-◌, false, []}
use Rattle.record_codec.specs.Reading.{items_at}
use Rattle.record_codec.specs.Readers.{rising_text, next_text}
use Rattle.record_codec.proofs.Loops.{with_front}
use Rattle.record_codec.proofs.read_lists.read_counted_rising_texts.Given as goal

abbrev pub invariant-loop : goal.invariant-loop
invariant-loop l = with_front l.texts.items (items_at rising_text next_text (l.tight, l.bound) (l.count - l.counter) l.rest) ≡ items_at rising_text next_text (false, []) l.count l.bytes

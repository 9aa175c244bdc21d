use Rattle.std.proofs.Common.{◌≡◌, ◌++◌, length, take}
use Rattle.std.specs.List.{flat_map}
use Rattle.record_codec.specs.Encoding.{number}
use Rattle.record_codec.proofs.write_fields.write_numbers.Given as goal

abbrev pub invariant-loop-value : goal.invariant-loop-value
invariant-loop-value l = l.out.items ≡ l.fn.out.items ++ (number (length l.numbers) ++ flat_map number (take l.value-index l.numbers))

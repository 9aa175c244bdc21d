use Rattle.std.proofs.Common.{◌≡◌, ◌++◌, length, take}
use Rattle.std.specs.List.{flat_map}
use Rattle.record_codec.specs.Encoding.{number, edit}
use Rattle.record_codec.proofs.write_edits.write_edits.Given as goal

abbrev pub invariant-loop-change : goal.invariant-loop-change
invariant-loop-change l = l.out.items ≡ l.fn.out.items ++ (number (length l.edits) ++ flat_map edit (take l.change-index l.edits))

use Rattle.std.proofs.Common.{◌≡◌, length, take}
use Rattle.std.specs.List.{flat_map}
use Rattle.record_codec.specs.Sizes.{capped}
use Rattle.record_codec.specs.Encoding.{edit}
use Rattle.record_codec.proofs.sizes.count_edit_bytes.Given as goal

abbrev pub invariant-loop-change : goal.invariant-loop-change
invariant-loop-change l = l.total ≡ capped (length (flat_map edit (take l.change-index l.edits)))

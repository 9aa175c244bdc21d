use Rattle.std.proofs.Common.{◌≡◌, ◌+◌, length, take}
use Rattle.std.specs.List.{flat_map}
use Rattle.record_codec.specs.Sizes.{capped}
use Rattle.record_codec.specs.Encoding.{blob}
use Rattle.record_codec.proofs.sizes.add_texts.Given as goal

abbrev pub invariant-loop-text : goal.invariant-loop-text
invariant-loop-text l = l.total ≡ capped (l.sum + (8 + length (flat_map blob (take l.text-index l.texts))))

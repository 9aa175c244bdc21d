use Rattle.std.proofs.Common.{take}
use Rattle.std.specs.List.{AllByRecursion}
use Rattle.record_codec.specs.Widths.{LengthFitsIn64Bits}
use Rattle.record_codec.specs.Offsets.{AreBytes}
use Rattle.record_codec.proofs.memory.confirm_blobs_fit.Given as goal

abbrev pub invariant-loop-blob : goal.invariant-loop-blob
invariant-loop-blob l = AllByRecursion LengthFitsIn64Bits (take l.blob-index l.blobs) × AllByRecursion AreBytes (take l.blob-index l.blobs)

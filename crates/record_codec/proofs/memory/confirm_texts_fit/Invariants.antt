use Rattle.std.proofs.Common.{take}
use Rattle.std.specs.List.{AllByRecursion}
use Rattle.std.specs.Str.{IsUtf8}
use Rattle.record_codec.specs.Widths.{LengthFitsIn64Bits}
use Rattle.record_codec.proofs.memory.confirm_texts_fit.Given as goal

abbrev pub invariant-loop-text : goal.invariant-loop-text
invariant-loop-text l = AllByRecursion LengthFitsIn64Bits (take l.text-index l.texts) × AllByRecursion IsUtf8 (take l.text-index l.texts)

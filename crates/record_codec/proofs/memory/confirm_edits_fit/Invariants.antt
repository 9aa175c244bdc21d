use Rattle.std.proofs.Common.{take}
use Rattle.std.specs.List.{AllByRecursion}
use Rattle.record_codec.specs.Widths.{IsWideEdit}
use Rattle.record_codec.specs.Offsets.{HasTextsInEdit}
use Rattle.record_codec.proofs.memory.confirm_edits_fit.Given as goal

abbrev pub invariant-loop-edit : goal.invariant-loop-edit
invariant-loop-edit l = AllByRecursion IsWideEdit (take l.edit-index l.edits) × AllByRecursion HasTextsInEdit (take l.edit-index l.edits)

use Rattle.std.proofs.Common.{take}
use Rattle.set_parts.specs.Views.{HoldIds}
use Rattle.set_parts.proofs.creation_ids.collect_ids.Given as goal

abbrev pub invariant-loop-created : goal.invariant-loop-created
invariant-loop-created l = HoldIds l.ids (take l.created-index l.made)

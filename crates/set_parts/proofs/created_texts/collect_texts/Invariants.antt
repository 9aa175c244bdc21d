use Rattle.std.proofs.Common.{take}
use Rattle.set_parts.specs.Views.{HoldTexts}
use Rattle.set_parts.proofs.created_texts.collect_texts.Given as goal

abbrev pub invariant-loop-created : goal.invariant-loop-created
invariant-loop-created l = HoldTexts l.texts (take l.created-index l.made)

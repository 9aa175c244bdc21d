use Rattle.std.proofs.Common.{List, map, take}
use Rattle.jm_json.specs.declared.invocation.Created.{Created}
use Rattle.set_parts.specs.Views.{AreDestroyed, HoldTexts}
use Rattle.set_parts.proofs.destroyed_ids.collect_destroyed.Given as goal

abbrev pub invariant-loop-id : goal.invariant-loop-id
invariant-loop-id l = (made : List Created) → HoldTexts l.texts made → AreDestroyed l.destroyed made (map (λ d. d.now) (take l.id-index l.destroys))

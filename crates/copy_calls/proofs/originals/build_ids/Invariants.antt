use Rattle.std.proofs.Common.{◌≡◌, map, take}
use Rattle.jm_json.specs.Tree.{text}
use Rattle.copy_calls.proofs.originals.build_ids.Given as goal

abbrev pub invariant-loop-id : goal.invariant-loop-id
invariant-loop-id l = l.items ≡ map text (map (λ s. s.now) (take l.id-index l.ids))

use Rattle.std.proofs.Common.{◌≡◌, map, ◌++◌, option_map, length}
use Rattle.jm_json.specs.Json.{tree_of}
use Rattle.jm_json.specs.Find.{texts_from}
use Rattle.method_batch.proofs.using.read_items.Given as goal

abbrev pub invariant-loop-item : goal.invariant-loop-item
invariant-loop-item l = texts_from l.fn.items ≡ option_map (λ ss. l.texts ++ ss) (texts_from (map tree_of l.rest.items))

abbrev pub decreases-loop-item : goal.decreases-loop-item
decreases-loop-item l = length l.rest.items

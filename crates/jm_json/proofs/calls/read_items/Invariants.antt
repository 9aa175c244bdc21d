use Rattle.std.proofs.Common.{◌≡◌, map, ◌++◌, option_map, length}
use Rattle.jm_json.specs.Json.{tree_of}
use Rattle.jm_json.specs.Calls.{calls_from}
use Rattle.jm_json.proofs.calls.read_items.Given as goal

abbrev pub invariant-loop-item : goal.invariant-loop-item
invariant-loop-item l = calls_from l.fn.items ≡ option_map (λ cs. l.calls ++ cs) (calls_from (map tree_of l.rest.items))

abbrev pub decreases-loop-item : goal.decreases-loop-item
decreases-loop-item l = length l.rest.items

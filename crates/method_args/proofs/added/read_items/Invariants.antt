use Rattle.std.proofs.Common.{◌≡◌, ◌++◌, map, drop, option_map}
use Rattle.jm_json.specs.Json.{tree_of}
use Rattle.method_args.specs.Added.{added_from}
use Rattle.method_args.proofs.added.read_items.Given as goal

abbrev pub invariant-loop-value : goal.invariant-loop-value
invariant-loop-value l = added_from l.kind (map tree_of l.values) ≡ option_map (λ ns. l.items ++ ns) (added_from l.kind (map tree_of (drop l.value-index l.values)))

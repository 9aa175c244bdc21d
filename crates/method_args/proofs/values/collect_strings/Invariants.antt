use Rattle.std.proofs.Common.{◌≡◌, map, ◌++◌, option_map, drop}
use Rattle.jm_json.specs.Json.{tree_of}
use Rattle.jm_json.specs.Find.{texts_from}
use Rattle.method_args.proofs.values.collect_strings.Given as goal

abbrev pub invariant-loop-item : goal.invariant-loop-item
invariant-loop-item l = texts_from (map tree_of l.items) ≡ option_map (λ ss. map (λ t. t.now) l.strings.items ++ ss) (texts_from (map tree_of (drop l.item-index l.items)))

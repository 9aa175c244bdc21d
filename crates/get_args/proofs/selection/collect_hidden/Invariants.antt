use Rattle.std.proofs.Common.{◌≡◌, map, drop, Some, ◌++◌}
use Rattle.get_args.specs.Selection.{hidden_of}
use Rattle.get_args.proofs.selection.collect_hidden.Given as goal

abbrev pub invariant-loop-property : goal.invariant-loop-property
invariant-loop-property l = hidden_of (Some (map (λ t. t.now) l.names)) (map (λ t. t.now) l.properties) ≡ map (λ t. t.now) l.hidden.items ++ hidden_of (Some (map (λ t. t.now) l.names)) (map (λ t. t.now) (drop l.property-index l.properties))

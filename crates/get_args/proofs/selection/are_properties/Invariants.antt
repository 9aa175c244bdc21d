use Rattle.std.proofs.Common.{◌≡◌, map, drop}
use Rattle.std.specs.List.{list_all}
use Rattle.get_args.specs.Selection.{is_among}
use Rattle.get_args.proofs.selection.are_properties.Given as goal

abbrev pub invariant-loop-name : goal.invariant-loop-name
invariant-loop-name l = list_all (is_among (map (λ t. t.now) l.properties)) (map (λ t. t.now) l.names) ≡ list_all (is_among (map (λ t. t.now) l.properties)) (map (λ t. t.now) (drop l.name-index l.names))

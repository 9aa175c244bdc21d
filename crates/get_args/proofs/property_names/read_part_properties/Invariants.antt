use Rattle.std.proofs.Common.{◌≡◌, map, ◌++◌, option_map, drop}
use Rattle.get_args.specs.Wanted.{named_part_property, each}
use Rattle.get_args.proofs.property_names.read_part_properties.Given as goal

abbrev pub invariant-loop-name : goal.invariant-loop-name
invariant-loop-name l = each named_part_property (map (λ t. t.now) l.names) ≡ option_map (λ ps. l.properties ++ ps) (each named_part_property (map (λ t. t.now) (drop l.name-index l.names)))

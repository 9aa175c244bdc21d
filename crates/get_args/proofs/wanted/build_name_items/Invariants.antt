use Rattle.std.proofs.Common.{◌≡◌, map, drop, ◌++◌}
use Rattle.jm_json.specs.Tree.{text}
use Rattle.get_args.proofs.wanted.build_name_items.Given as goal

abbrev pub invariant-loop-name : goal.invariant-loop-name
invariant-loop-name l = map text (map (λ t. t.now) l.names) ≡ l.items ++ map text (map (λ t. t.now) (drop l.name-index l.names))

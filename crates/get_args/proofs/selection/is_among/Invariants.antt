use Rattle.std.proofs.Common.{◌≡◌, map, drop}
use Rattle.get_args.specs.Selection.{is_among}
use Rattle.get_args.proofs.selection.is_among.Given as goal

abbrev pub invariant-loop-other : goal.invariant-loop-other
invariant-loop-other l = is_among (map (λ t. t.now) l.names) l.name ≡ is_among (map (λ t. t.now) (drop l.other-index l.names)) l.name

use Rattle.std.proofs.Common.{◌≡◌, ◌++◌, length}
use Rattle.std.specs.List.{flat_map}
use Rattle.header_forms.proofs.groups.join.Given as goal

abbrev pub invariant-loop-group : goal.invariant-loop-group
invariant-loop-group l = l.all ++ flat_map (λ g. g.addresses) l.rest.items ≡ flat_map (λ g. g.addresses) l.fn.groups

abbrev pub decreases-loop-group : goal.decreases-loop-group
decreases-loop-group l = length l.rest.items

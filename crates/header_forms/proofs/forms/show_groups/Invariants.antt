use Rattle.std.proofs.Common.{◌≡◌, ◌++◌, map, length}
use Rattle.header_forms.specs.Forms.{group_tree}
use Rattle.header_forms.proofs.forms.show_groups.Given as goal

abbrev pub invariant-loop-group : goal.invariant-loop-group
invariant-loop-group l = l.items ++ map group_tree l.rest.items ≡ map group_tree l.fn.groups

abbrev pub decreases-loop-group : goal.decreases-loop-group
decreases-loop-group l = length l.rest.items

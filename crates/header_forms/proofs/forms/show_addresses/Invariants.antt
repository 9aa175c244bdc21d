use Rattle.std.proofs.Common.{◌≡◌, ◌++◌, map, length}
use Rattle.header_forms.specs.Forms.{address_tree}
use Rattle.header_forms.proofs.forms.show_addresses.Given as goal

abbrev pub invariant-loop-address : goal.invariant-loop-address
invariant-loop-address l = l.items ++ map address_tree l.rest.items ≡ map address_tree l.fn.addresses

abbrev pub decreases-loop-address : goal.decreases-loop-address
decreases-loop-address l = length l.rest.items

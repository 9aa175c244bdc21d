use Rattle.std.proofs.Common.{◌≡◌, ◌++◌, length}
use Rattle.header_forms.specs.Addresses.{groups_by}
use Rattle.header_forms.specs.Groups.{slices_from}
use Rattle.header_forms.specs.GroupSteps.{groups_from}
use Rattle.header_forms.proofs.groups.read_groups.Given as goal

abbrev pub invariant-loop-piece : goal.invariant-loop-piece
invariant-loop-piece l = l.work.groups ++ groups_from l.work.name l.work.addresses (slices_from l.rest l.in_group) ≡ groups_by l.characters

abbrev pub decreases-loop-piece : goal.decreases-loop-piece
decreases-loop-piece l = length l.rest

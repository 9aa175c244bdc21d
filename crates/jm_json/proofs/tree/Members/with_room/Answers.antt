use Rattle.std.specs.List.Sorted.{IsStrictlySortedBy}
use Rattle.jm_json.proofs.tree.Members.with_room.Goals as goal

pub invariant_of-result : goal.invariant_of-result
unfolding IsStrictlySortedBy
invariant_of-result c = rw c.in_ok-with_capacity.ensures.items tt

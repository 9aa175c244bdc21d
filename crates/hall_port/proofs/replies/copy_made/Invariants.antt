use Rattle.std.proofs.Common.{◌≡◌, take}
use Rattle.hall_port.proofs.replies.copy_made.Given as goal

abbrev pub invariant-loop-created : goal.invariant-loop-created
invariant-loop-created l = l.copies.items ≡ take l.created-index l.made

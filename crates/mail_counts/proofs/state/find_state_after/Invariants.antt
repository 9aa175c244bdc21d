use Rattle.std.proofs.Common.{◌≡◌, take}
use Rattle.mail_counts.specs.Plans.{Ground, present_end, present_state, state_after}
use Rattle.mail_counts.proofs.state.find_state_after.Given as goal

abbrev pub invariant-loop-i : goal.invariant-loop-i
invariant-loop-i l = (g : Ground) → present_state l.kind g ≡ l.before → present_end g ≡ l.last → l.after ≡ state_after l.kind g (take l.i l.edits)

use Rattle.set_parts.specs.Creates.{Creating}
use Rattle.mailbox_creates.specs.Views.{Follows}
use Rattle.mailbox_creates.specs.Rounds.{stands}
use Rattle.mailbox_creates.proofs.Rounding.{Searched}
use Rattle.mailbox_creates.proofs.rounds.find_ready.Given as goal

abbrev pub invariant-loop-i : goal.invariant-loop-i
invariant-loop-i l = (s : Creating) → Follows l.planner s → Searched (stands s.made) l.drafts l.i

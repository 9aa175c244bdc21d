use Rattle.std.proofs.Common.{◌≡◌, ◌+◌, ◌<◌, map, length}
use Rattle.jm_base.specs.declared.identifiers.TheConstants.{NUMBER_LIMIT}
use Rattle.set_parts.specs.Creates.{Creating}
use Rattle.mailbox_creates.specs.Views.{Follows}
use Rattle.set_parts.specs.Views.{create_of}
use Rattle.mailbox_creates.specs.Rounds.{after_creates, in_rounds}
use Rattle.mailbox_creates.proofs.rounds.do_creates.Given as goal

abbrev pub invariant-rounds : goal.invariant-rounds
invariant-rounds l = record {
  room : l.planner.next + length l.rest.items < NUMBER_LIMIT;
  follows : (s : Creating) → Follows l.initial.planner s → (t : Creating) × Follows l.planner t × (in_rounds (length l.rest.items) t (map create_of l.rest.items) ≡ after_creates s (map create_of l.fn.drafts.items));
}

abbrev pub decreases-rounds : goal.decreases-rounds
decreases-rounds l = length l.rest.items

use Rattle.std.proofs.Common.{◌≡◌, ◌+◌, ◌<◌, map, length, drop}
use Rattle.jm_base.specs.declared.identifiers.TheConstants.{NUMBER_LIMIT}
use Rattle.set_parts.specs.Creates.{Creating}
use Rattle.mailbox_creates.specs.Views.{Follows}
use Rattle.set_parts.specs.Views.{create_of}
use Rattle.mailbox_creates.specs.Rounds.{after_each}
use Rattle.mailbox_creates.proofs.rounds.do_each.Given as goal

abbrev pub invariant-loop-i : goal.invariant-loop-i
invariant-loop-i l = record {
  room : l.planner.next + length l.drafts < NUMBER_LIMIT + l.i;
  follows : (s : Creating) → Follows l.initial.planner s → (t : Creating) × Follows l.planner t × (after_each t (map create_of (drop l.i l.drafts)) ≡ after_each s (map create_of l.drafts));
}

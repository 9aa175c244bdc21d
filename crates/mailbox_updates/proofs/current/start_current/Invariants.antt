use Rattle.std.proofs.Common.{◌≡◌, [], take}
use Rattle.std.specs.List.{AllByRecursion}
use Rattle.mail_records.specs.Edits.{after_edits}
use Rattle.set_parts.specs.Steps.{before_steps}
use Rattle.mailbox_updates.specs.UpdateViews.{Counts}
use Rattle.mailbox_updates.specs.Views.{PutsMailbox, Tracks}
use Rattle.mailbox_updates.proofs.current.start_current.Given as goal

abbrev pub invariant-loop-edit : goal.invariant-loop-edit
invariant-loop-edit l = record {
  tracks : AllByRecursion PutsMailbox l.creates → Tracks l.current (before_steps (after_edits l.fn.content.content (take l.edit-index l.creates)));
  destroyed : l.current.destroyed.items ≡ [];
  count : AllByRecursion PutsMailbox l.creates → Counts l.current (after_edits l.fn.content.content (take l.edit-index l.creates));
}

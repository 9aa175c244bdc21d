use Rattle.std.proofs.Common.{◌≡◌, drop}
use Rattle.std.specs.List.{list_all}
use Rattle.mail_records.specs.Contents.{Content}
use Rattle.mailbox_updates.specs.UpdateViews.{Counts}
use Rattle.mailbox_updates.specs.Updates.{keeps_rules}
use Rattle.mailbox_updates.specs.Views.{Shows}
use Rattle.mailbox_updates.proofs.rules.are_rules_kept_by.Given as goal

abbrev pub invariant-loop-edit : goal.invariant-loop-edit
invariant-loop-edit l =
    (c : Content) → Shows l.current c → Counts l.current c
    → list_all (keeps_rules c) l.edits ≡ list_all (keeps_rules c) (drop l.edit-index l.edits)

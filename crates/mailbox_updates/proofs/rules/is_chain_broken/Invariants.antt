use Rattle.std.proofs.Common.{◌≡◌, true, false, is_some}
use Rattle.mail_records.specs.Contents.{Content, mailbox_at}
use Rattle.mail_records.specs.Edits.{after_edit}
use Rattle.mail_records.specs.declared.edits.Edit.TheVariants.{PutMailbox}
use Rattle.mail_counts.specs.Tidy.{ancestor}
use Rattle.mailbox_updates.specs.UpdateViews.{Counts}
use Rattle.mailbox_updates.specs.Updates.{is_chain_broken}
use Rattle.mailbox_updates.specs.Views.{Shows}
use Rattle.mailbox_updates.proofs.rules.is_chain_broken.Given as goal

abbrev pub invariant-loop-at : goal.invariant-loop-at
invariant-loop-at l =
    (c : Content) → Shows l.current c → Counts l.current c → is_some (mailbox_at c l.mailbox.number) ≡ true
    → is_some (ancestor l.left (after_edit c (PutMailbox l.mailbox true false)) l.at) ≡ is_chain_broken (after_edit c (PutMailbox l.mailbox true false)) l.mailbox

abbrev pub decreases-loop-at : goal.decreases-loop-at
decreases-loop-at l = l.left

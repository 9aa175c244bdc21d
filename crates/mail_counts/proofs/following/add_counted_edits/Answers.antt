use Rattle.std.proofs.Common.{◌≡◌, ◌++◌, OnOk, subst, ◌∙◌}
use Rattle.mail_records.specs.Contents.{mailbox_number}
use Rattle.mail_counts.specs.Overlay.{all_listed}
use Rattle.mail_counts.specs.Steps.{counted_edits}
use Rattle.mail_counts.proofs.following.add_counted_edits.Goals as goal

pub returns : goal.returns
returns c =
    subst (λ ns. OnOk c.add_count_edits.result (c.add_count_edits.new.edits.items ≡ c.args.edits.now.items ++ all_listed mailbox_number (counted_edits c.args.were.now c.args.are.now) c.args.content.now.mailboxes ns))
    (c.deref.ensures.value ∙ c.in_ok-mailboxes.ensures.is) c.add_count_edits.ensures

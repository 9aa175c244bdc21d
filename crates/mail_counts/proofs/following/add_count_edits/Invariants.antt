use Rattle.std.proofs.Common.{◌≡◌, ◌++◌, drop}
use Rattle.mail_records.specs.Contents.{mailbox_number}
use Rattle.mail_counts.specs.Overlay.{all_listed}
use Rattle.mail_counts.specs.Steps.{counted_edits}
use Rattle.mail_counts.proofs.following.add_count_edits.Given as goal

abbrev pub invariant-loop-number : goal.invariant-loop-number
invariant-loop-number l = l.edits.items ++ all_listed mailbox_number (counted_edits l.were l.are) l.content.mailboxes (drop l.number-index l.numbers) ≡ l.fn.edits.items ++ all_listed mailbox_number (counted_edits l.were l.are) l.content.mailboxes l.numbers

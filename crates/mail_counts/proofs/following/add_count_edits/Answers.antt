use Rattle.std.proofs.Common.{◌+◌, drop, option_map}
use Rattle.std.proofs.lemmas.List.{drop_more}
use Rattle.mail_records.specs.Contents.{mailbox_number}
use Rattle.mail_counts.specs.Steps.{counted_edits}
use Rattle.mail_counts.proofs.Turns.{number_turned}
use Rattle.mail_counts.proofs.following.add_count_edits.Goals as goal

pub loop-number-preserved : goal.loop-number-preserved
loop-number-preserved c =
    let numbers = c.args.numbers.now in
    let i = c.loop-number.number-index in
    number_turned mailbox_number (counted_edits c.args.were.now c.args.are.now) c.args.content.now.mailboxes _ (drop i numbers) (drop (i + 1) numbers) (option_map (λ r. r.now) c.mailbox.result)
    c.loop-number.edits.items c.add_count_edit.new.edits.items _
    (drop_more numbers i _ c.loop-number-test.true) c.mailbox.ensures c.in_ok-add_count_edit.ensures c.loop-number.invariant

use Rattle.std.proofs.Common.{◌+◌, drop, map, option_map}
use Rattle.std.proofs.lemmas.List.{drop_more}
use Rattle.mail_records.specs.Contents.{email_number}
use Rattle.mail_counts.specs.Overlay.{if_of_threads}
use Rattle.mail_counts.proofs.Turns.{number_turned}
use Rattle.mail_counts.proofs.following.collect_emails_of_threads.Goals as goal

pub loop-number-preserved : goal.loop-number-preserved
loop-number-preserved c =
    let numbers = c.args.numbers.now in
    let i = c.loop-number.number-index in
    number_turned email_number (if_of_threads c.args.threads.now) c.args.content.now.emails _ (drop i numbers) (drop (i + 1) numbers) (option_map (λ r. r.now) c.email.result)
    (map (λ r. r.now) c.loop-number.emails.items) (map (λ r. r.now) c.add_if_of.new.emails.items) _
    (drop_more numbers i _ c.loop-number-test.true) c.email.ensures c.in_ok-add_if_of.ensures c.loop-number.invariant

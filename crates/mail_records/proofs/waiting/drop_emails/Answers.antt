use Rattle.std.proofs.Common.{◌≡◌, ap, ◌∙◌}
use Rattle.mail_records.specs.Contents.{email_number}
use Rattle.mail_records.specs.Tables.{without_all}
use Rattle.mail_records.proofs.WithoutAll.{without_same}
use Rattle.mail_records.proofs.waiting.drop_emails.Goals as goal

pub returns-clause-content : goal.returns-clause-content
returns-clause-content c =
    let old = c.args.content.now.content in
    let sorted : c.deref-2.result.now ≡ c.put_in_order.new.numbers.items = c.deref-2.ensures.value in
    c.drop_many_emails.ensures.content
    ∙ ap (λ rs. record old { emails = rs })
    (ap (λ ns. without_all email_number ns old.emails) sorted ∙ without_same email_number c.put_in_order.new.numbers.items c.args.dropped.items c.put_in_order.ensures.same old.emails)

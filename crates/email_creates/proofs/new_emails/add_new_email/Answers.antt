use Rattle.std.proofs.Common.{◌≡◌, ◌∙◌, false}
use Rattle.mail_records.specs.Edits.{after_edit}
use Rattle.mail_records.specs.declared.edits.Edit.TheVariants.{PutEmail}
use Rattle.email_creates.proofs.Following.{Fits-new_email, entered}
use Rattle.set_parts.proofs.Parts.{on_ok}
use Rattle.email_creates.proofs.new_emails.add_new_email.Goals as goal

pub apply-requires-clause-fits : goal.apply-requires-clause-fits
apply-requires-clause-fits c = Fits-new_email c.args.new_emails.now.content c.in_ok-item.item c.requires.numbered (c.in_ok-item.ensures.number ∙ c.next.ensures)

pub returns-clause-threads : goal.returns-clause-threads
returns-clause-threads c =
    on_ok c.apply.result (c.apply.new.content.content ≡ after_edit c.args.new_emails.now.content (PutEmail c.in_ok-item.item false)) _
    (λ is. (entered c.args.new_emails.now.content c.apply.new.content.content c.in_ok-item.item c.args.thread c.args.summary.now is c.requires.numbered
    (c.in_ok-item.ensures.number ∙ c.next.ensures) c.in_ok-item.ensures.thread c.in_ok-item.ensures.links c.in_ok-item.ensures.subject).threads)
    c.apply.ensures.ok

pub returns-clause-numbered : goal.returns-clause-numbered
returns-clause-numbered c =
    on_ok c.apply.result (c.apply.new.content.content ≡ after_edit c.args.new_emails.now.content (PutEmail c.in_ok-item.item false)) _
    (λ is. (entered c.args.new_emails.now.content c.apply.new.content.content c.in_ok-item.item c.args.thread c.args.summary.now is c.requires.numbered
    (c.in_ok-item.ensures.number ∙ c.next.ensures) c.in_ok-item.ensures.thread c.in_ok-item.ensures.links c.in_ok-item.ensures.subject).numbered)
    c.apply.ensures.ok

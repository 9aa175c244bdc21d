use Rattle.std.proofs.Common.{◌≡◌, ◌∙◌, None, sym, ap, subst}
use Rattle.mail_records.specs.declared.records.Email.{Email}
use Rattle.email_creates.specs.Emails.{Progress, after_made, email_of, thread_for}
use Rattle.email_creates.specs.Views.{Follows, blob_of}
use Rattle.set_parts.proofs.Parts.{on_ok}
use Rattle.email_creates.proofs.emails.create_email.Goals as goal

pub returns-clause-follows : goal.returns-clause-follows
returns-clause-follows c =
    on_ok c.enter_email.result _ _
    (λ k (s : Progress) (f : Follows c.args.setting.now.content.now.content c.args.planner.now s).
    let base = c.args.setting.now.content.now.content in
    let is : c.in_ok-email.email.item ≡ email_of s c.args.setting.now.moment c.args.sent (blob_of c.args.message) = c.in_ok-email.ensures.email s f in
    subst (λ (e : Email). Follows base c.enter_email.new.planner (after_made s c.args.creation.now e None)) is
    (k base s f (ap (λ (e : Email). e.number) is) (ap (λ (e : Email). e.thread) is ∙ ap (thread_for s) (sym (ap (λ (e : Email). e.summary) is))) (c.in_ok-email.ensures.joined s f)))
    c.enter_email.ensures.follows

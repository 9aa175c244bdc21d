use Rattle.std.proofs.Common.{◌∙◌, ◌+◌, Some, None, List, length, sym, ap, subst}
use Rattle.mail_records.specs.declared.edits.Edit.{Edit}
use Rattle.email_creates.specs.Emails.{Progress}
use Rattle.set_parts.specs.Views.{create_of}
use Rattle.email_creates.specs.Views.{Follows}
use Rattle.mail_import.specs.Views.{import_of}
use Rattle.mail_import.proofs.Following.{import_step}
use Rattle.set_parts.proofs.Parts.{on_ok}
use Rattle.mail_import.proofs.import.perform_import.Goals as goal

pub returns-in-Some-clause-follows : goal.returns-in-Some-clause-follows
returns-in-Some-clause-follows c =
    let base = c.args.setting.now.content.now.content in
    on_ok c.reject_email.result _ _
    (λ k (s : Progress) (f : Follows base c.args.planner.now s).
    subst (Follows base c.reject_email.new.planner)
    (sym (import_step c.args.setting.now.blobs.now.blobs c.args.setting.now.moment s (create_of c.args.import.now) base (import_of c.in_ok-read.read) c.count_emails-emails.result c.in_ok-invalid.invalid (Some c.in-Some.error)
    f.mailboxes (c.in_ok-read.ensures s.creating.made f.creates.ids)
    (f.count ∙ (ap (λ (es : List Edit). length base.emails + length es) (sym c.as_slice.ensures) ∙ sym c.count_emails-emails.ensures))
    c.in_ok-invalid.ensures
    (sym c.find_error.ensures ∙ c.in-Some.is)))
    (k base s f))
    c.reject_email.ensures.follows

pub returns-in-None-clause-follows : goal.returns-in-None-clause-follows
returns-in-None-clause-follows c =
    let base = c.args.setting.now.content.now.content in
    on_ok c.import_email.result _ _
    (λ k (s : Progress) (f : Follows base c.args.planner.now s).
    subst (Follows base c.import_email.new.planner)
    (sym (import_step c.args.setting.now.blobs.now.blobs c.args.setting.now.moment s (create_of c.args.import.now) base (import_of c.in_ok-read.read) c.count_emails-emails.result c.in_ok-invalid.invalid None
    f.mailboxes (c.in_ok-read.ensures s.creating.made f.creates.ids)
    (f.count ∙ (ap (λ (es : List Edit). length base.emails + length es) (sym c.as_slice.ensures) ∙ sym c.count_emails-emails.ensures))
    c.in_ok-invalid.ensures
    (sym c.find_error.ensures ∙ c.in-None.is)))
    (k s f))
    c.import_email.ensures.follows

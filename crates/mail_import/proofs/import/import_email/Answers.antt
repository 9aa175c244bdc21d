use Rattle.std.proofs.Common.{None, subst}
use Rattle.email_creates.specs.Emails.{Progress, after_made, email_of}
use Rattle.email_creates.specs.Properties.{NamedBlob}
use Rattle.email_creates.specs.Views.{Follows}
use Rattle.set_parts.proofs.Parts.{on_ok}
use Rattle.mail_import.proofs.import.import_email.Goals as goal

pub returns-clause-follows : goal.returns-clause-follows
returns-clause-follows c =
    let base = c.args.setting.now.content.now.content in
    on_ok c.create_email.result _ _
    (λ k (s : Progress) (f : Follows base c.args.planner.now s).
    subst (λ (x : NamedBlob). Follows base c.create_email.new.planner (after_made s c.args.creation.now (email_of s c.args.setting.now.moment c.args.import.sent x) None)) c.take_blob_or_none.ensures (k s f))
    c.create_email.ensures.follows

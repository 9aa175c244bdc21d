use Rattle.std.proofs.Common.{subst, ◌∙◌}
use Rattle.mail_records.specs.Contents.{email_number}
use Rattle.mail_records.specs.Tables.{IsTable}
use Rattle.query_engine.proofs.Ran.{ran}
use Rattle.query_engine.proofs.run.run_query_upto.Goals as goal

pub returns : goal.returns
returns g c =
    let cc = c.args.content.now.content in
    ran c.args.query.now cc (g.T.Texts2.texts c.args.texts.now) c.args.max c.new_page-page.result c.walk_query.new.page c.finish.result
    (subst (IsTable email_number) c.emails-emails.ensures.items c.emails-emails.ensures.table)
    c.new_page-page.ensures.numbers c.new_page-page.ensures.threads (c.new_page-page.ensures.collapse ∙ c.collapses_emails.ensures) c.new_page-page.ensures.max
    c.in_ok-walk_query.ensures (c.finish.ensures cc)

use Rattle.std.proofs.Common.{ℕ, List, OnOk, subst, sym, ◌∙◌}
use Rattle.mail_records.specs.Contents.{email_number, mailbox_number}
use Rattle.mail_records.specs.Tables.{IsTable}
use Rattle.query_engine.specs.Walks.{Follows}
use Rattle.query_engine.proofs.ByNumber.{by_number_list}
use Rattle.query_engine.proofs.Sorting.{matched_emails, matched_mailboxes}
use Rattle.query_engine.proofs.by_number.put_by_number.Goals as goal

pub returns-in-Email : goal.returns-in-Email
returns-in-Email g c =
    let q = c.args.query.now in
    let cc = c.args.content.now.content in
    let texts = g.T.Texts2.texts c.args.texts.now in
    let m = subst (IsTable mailbox_number) c.mailboxes-mailboxes.ensures.items c.mailboxes-mailboxes.ensures.table in
    let e = subst (IsTable email_number) c.emails-emails.ensures.items c.emails-emails.ensures.table in
    subst (λ (ns : List ℕ). OnOk c.put_emails_by_number.result (Follows cc c.args.page.now c.put_emails_by_number.new.page ns))
    (matched_emails q cc texts e (sym c.kind.ensures ∙ c.in-Email.is) ∙ by_number_list q cc texts m e c.requires)
    c.put_emails_by_number.ensures.follows

pub returns-in-Mailbox : goal.returns-in-Mailbox
returns-in-Mailbox g c =
    let q = c.args.query.now in
    let cc = c.args.content.now.content in
    let texts = g.T.Texts2.texts c.args.texts.now in
    let m = subst (IsTable mailbox_number) c.mailboxes-mailboxes.ensures.items c.mailboxes-mailboxes.ensures.table in
    let e = subst (IsTable email_number) c.emails-emails.ensures.items c.emails-emails.ensures.table in
    subst (λ (ns : List ℕ). OnOk c.put_each_mailbox.result (Follows cc c.args.page.now c.put_each_mailbox.new.page ns))
    (matched_mailboxes q cc texts m (sym c.kind.ensures ∙ c.in-Mailbox.is) ∙ by_number_list q cc texts m e c.requires)
    c.put_each_mailbox.ensures.follows

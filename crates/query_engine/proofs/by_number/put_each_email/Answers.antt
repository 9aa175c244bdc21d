use Rattle.std.proofs.Common.{◌≡◌, ◌+◌, ℕ, List, ◌∷◌, ◌++◌, Some, drop, sym, ap, subst, ◌∙◌}
use Rattle.std.proofs.lemmas.List.{drop_more}
use Rattle.mail_records.specs.Contents.{email_number}
use Rattle.mail_records.specs.Tables.{IsTable, lookup}
use Rattle.mail_records.specs.declared.records.Email.{Email}
use Rattle.filter_terms.specs.Filters.{holds}
use Rattle.filter_terms.specs.Targets.{AnEmail, email_in_thread}
use Rattle.query_engine.specs.Walks.{goes_on, kept_emails}
use Rattle.query_engine.proofs.ByNumber.{found_at, kept_on}
use Rattle.query_engine.proofs.by_number.put_each_email.Goals as goal

pub visit_email-requires-clause-there : goal.visit_email-requires-clause-there
visit_email-requires-clause-there g c =
    let x : Email = c.email-item.result in
    subst (λ (es : List Email). lookup email_number (email_number x) es ≡ Some x) c.emails-emails.ensures.items
    (found_at email_number c.emails-emails.result.now c.loop-email.email-index x c.emails-emails.ensures.table c.loop-email-test.true c.email-item.is)

pub loop-email-preserved : goal.loop-email-preserved
loop-email-preserved g c =
    let q = c.args.query.now in
    let cc = c.args.content.now.content in
    let texts = g.T.Texts2.texts c.args.texts.now in
    let es = c.emails-emails.result.now in
    let i = c.loop-email.email-index in
    let x : Email = c.email-item.result in
    kept_on email_number (λ (e : Email). holds q.kind (AnEmail texts (email_in_thread cc.emails e)) q.filter) cc c.args.page.now c.loop-email.page c.visit_email.new.page (kept_emails q cc texts es) x (drop (i + 1) es)
    (subst (λ (zs : List Email). (rest : List ℕ) → goes_on cc c.loop-email.page (kept_emails q cc texts zs ++ rest) ≡ goes_on cc c.args.page.now (kept_emails q cc texts es ++ rest))
    (drop_more es i x c.loop-email-test.true ∙ ap (λ z. z ∷ drop (i + 1) es) (sym c.email-item.is)) c.loop-email.invariant)
    c.in_ok-visit_email.ensures

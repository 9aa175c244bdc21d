use Rattle.std.proofs.Common.{◌≡◌, ℕ, List, IfOk, sym, subst, ◌∙◌}
use Rattle.query_engine.proofs.Sorting.{matched_emails, matched_mailboxes}
use Rattle.query_engine.proofs.run.collect_matching_numbers.Goals as goal

pub returns-in-Email : goal.returns-in-Email
returns-in-Email g c =
    subst (λ (zs : List ℕ). IfOk c.collect_matching_emails.result (λ v. v.items ≡ zs))
    (matched_emails c.args.query.now c.args.content.now.content (g.T.Texts2.texts c.args.texts.now) c.collect_matching_emails.ensures.table (sym c.kind.ensures ∙ c.in-Email.is)) c.collect_matching_emails.ensures.numbers

pub returns-in-Mailbox : goal.returns-in-Mailbox
returns-in-Mailbox g c =
    subst (λ (zs : List ℕ). IfOk c.collect_matching_mailboxes.result (λ v. v.items ≡ zs))
    (matched_mailboxes c.args.query.now c.args.content.now.content (g.T.Texts2.texts c.args.texts.now) c.collect_matching_mailboxes.ensures.table (sym c.kind.ensures ∙ c.in-Mailbox.is)) c.collect_matching_mailboxes.ensures.numbers

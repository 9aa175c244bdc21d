use Rattle.std.proofs.Common.{ℕ, List, OnOk, is_lt, subst, ◌∙◌}
use Rattle.std.specs.List.Sorted.{IsSortedBy}
use Rattle.mail_records.specs.Contents.{email_number, mailbox_number}
use Rattle.mail_records.specs.Tables.{IsTable}
use Rattle.sort_terms.specs.Orders.{numbers_cmp}
use Rattle.sort_terms.specs.Views.{OrderTree}
use Rattle.query_engine.specs.Walks.{Follows}
use Rattle.query_engine.proofs.Sorting.{sorted_matches}
use Rattle.query_engine.proofs.run.walk_sorted.Goals as goal

pub returns : goal.returns
returns g c =
    let cc = c.args.content.now.content in
    subst (λ (ns : List ℕ). OnOk c.put_numbers.result (Follows cc c.args.page.now c.put_numbers.new.page ns))
    (c.deref.ensures.value
    ∙ sorted_matches c.args.query.now cc (g.T.Texts2.texts c.args.texts.now) c.in_ok-numbers.numbers.items c.sort_by_comparators.new.numbers.items
    (subst (IsTable mailbox_number) c.mailboxes-mailboxes.ensures.items c.mailboxes-mailboxes.ensures.table)
    (subst (IsTable email_number) c.emails-emails.ensures.items c.emails-emails.ensures.table)
    c.in_ok-numbers.ensures c.sort_by_comparators.ensures.same
    (subst (λ (o : OrderTree). IsSortedBy (λ a b. is_lt (numbers_cmp o.kind o.tree cc a b)) c.sort_by_comparators.new.numbers.items) c.order-2.ensures c.sort_by_comparators.ensures.sorted))
    c.put_numbers.ensures

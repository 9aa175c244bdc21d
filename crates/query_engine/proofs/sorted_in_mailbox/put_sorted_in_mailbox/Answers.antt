use Rattle.std.proofs.Common.{ℕ, List, OnOk, is_lt, subst, ◌∙◌}
use Rattle.std.specs.List.Sorted.{IsSortedBy}
use Rattle.sort_terms.specs.Orders.{numbers_cmp}
use Rattle.sort_terms.specs.Views.{OrderTree}
use Rattle.query_engine.specs.Walks.{Follows}
use Rattle.query_engine.proofs.MailboxSorted.{placed_sorted}
use Rattle.query_engine.proofs.sorted_in_mailbox.put_sorted_in_mailbox.Goals as goal

pub returns : goal.returns
returns g c =
    let cc = c.args.content.now.content in
    subst (λ (ns : List ℕ). OnOk c.put_numbers.result (Follows cc c.args.page.now c.put_numbers.new.page ns))
    (c.deref.ensures.value
    ∙ placed_sorted c.args.query.now cc c.requires.emails c.args.mailbox c.requires.within c.in_mailbox-entries.result.now c.in_mailbox-entries.ensures (g.T.Texts2.texts c.args.texts.now)
    c.in_ok-numbers.numbers.items c.sort_by_comparators.new.numbers.items c.in_ok-numbers.ensures c.sort_by_comparators.ensures.same
    (subst (λ (o : OrderTree). IsSortedBy (λ a b. is_lt (numbers_cmp o.kind o.tree cc a b)) c.sort_by_comparators.new.numbers.items) c.order.ensures c.sort_by_comparators.ensures.sorted))
    c.put_numbers.ensures

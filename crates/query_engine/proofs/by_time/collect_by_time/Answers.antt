use Rattle.std.proofs.Common.{◌≡◌, ℕ, List, IfOk, map, subst, ap, ◌∙◌}
use Rattle.mail_records.specs.Contents.{mailbox_number}
use Rattle.mail_records.specs.Orders.{dated_owner}
use Rattle.mail_records.specs.Tables.{IsTable}
use Rattle.query_engine.proofs.ByTime.{dated_are_matches}
use Rattle.query_engine.proofs.by_time.collect_by_time.Goals as goal

pub returns : goal.returns
returns g c =
    let cc = c.args.content.now.content in
    subst (λ (ns : List ℕ). IfOk c.collect_numbers.result (λ v. v.items ≡ ns))
    (ap (map dated_owner) c.deref.ensures.value
    ∙ dated_are_matches c.args.query.now cc c.requires.emails c.args.ascending c.requires.order (g.T.Texts2.texts c.args.texts.now) c.in_ok-all.all.items c.sort_dated.new.all.items
    (subst (IsTable mailbox_number) c.mailboxes-mailboxes.ensures.items c.mailboxes-mailboxes.ensures.table) c.in_ok-all.ensures.table
    c.in_ok-all.ensures.entries c.sort_dated.ensures.same c.sort_dated.ensures.sorted)
    c.collect_numbers.ensures

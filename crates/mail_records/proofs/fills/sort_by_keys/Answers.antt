use Rattle.std.proofs.Common.{◌≡◌, ap, rules}
use Rattle.std.specs.Ordering.{is_lt}
use Rattle.std.proofs.lemmas.List.MinMax.{ranks_by}
use Rattle.std.proofs.lemmas.Fn.{always_returns_same}
use Rattle.mail_records.specs.Orders.{key_of}
use Rattle.mail_records.specs.OrderSteps.{compare_by}
use Rattle.mail_records.proofs.KeyOrder.{key_total}
use Rattle.mail_records.proofs.fills.sort_by_keys.Goals as goal

pub returns-in-Ok-clause-sorted : goal.returns-in-Ok-clause-sorted
returns-in-Ok-clause-sorted g c =
    let f = key_of g.R.Record.number g.E.Entry.owner g.E.Entry.key c.args.table.now.rows in
    c.in-Ok.ensures.sorted (λ x y. is_lt (compare_by f x y)) (ranks_by key_total f) (always_returns_same _ _ _ (λ a r h' k. let same : r ≡ compare_by f a.0.now a.1.0.now = search rules in (ap is_lt same, search rules)))

pub returns-in-Err-clause-sorted : goal.returns-in-Err-clause-sorted
returns-in-Err-clause-sorted g c =
    let f = key_of g.R.Record.number g.E.Entry.owner g.E.Entry.key c.args.table.now.rows in
    c.sort_unstable_by.ensures.sorted (λ x y. is_lt (compare_by f x y)) (ranks_by key_total f) (always_returns_same _ _ _ (λ a r h' k. let same : r ≡ compare_by f a.0.now a.1.0.now = search rules in (ap is_lt same, search rules)))

use Rattle.std.proofs.Common.{◌≡◌, map, refl, sym, ap, ◌∙◌, subst, rules}
use Rattle.std.specs.List.{dedup}
use Rattle.std.specs.List.Sorted.{IsStrictlySortedBy}
use Rattle.std.specs.Ordering.{is_eq}
use Rattle.std.specs.Cmp.{on_total}
use Rattle.std.proofs.lemmas.Fn.{dedup_same}
use Rattle.std.proofs.lemmas.List.Kept.{IsStrictlySortedBy-dedup}
use Rattle.mail_records.specs.Orders.{KeysRise, has_key, key_of}
use Rattle.mail_records.specs.OrderSteps.{compare_by}
use Rattle.mail_records.proofs.SortedKeys.{has-dedup, has-permutation, keys_rise}
use Rattle.mail_records.proofs.KeyOrder.{key_total}
use Rattle.mail_records.proofs.fills.sort_entries.Goals as goal

pub returns-clause-rise : goal.returns-clause-rise
returns-clause-rise g c =
    let f = key_of g.R.Record.number g.E.Entry.owner g.E.Entry.key c.args.table.now.rows in
    let sorted = c.sort_by_keys.new.entries.items in
    let kept : c.dedup_by.new.self.items ≡ dedup (λ x y. is_eq (compare_by f x y)) sorted =
    dedup_same _ (λ x y. is_eq (compare_by f x y)) _ (λ x y b f' x' y' k. search rules) _ _ c.dedup_by.ensures.filtered in
    let rise : IsStrictlySortedBy (compare_by f) (dedup (λ x y. is_eq (compare_by f x y)) sorted) =
    IsStrictlySortedBy-dedup (on_total f key_total) (λ x y. refl) sorted c.sort_by_keys.ensures.sorted in
    subst (λ es. KeysRise (map f es)) (sym kept) (keys_rise f (dedup (λ x y. is_eq (compare_by f x y)) sorted) rise)

pub returns-clause-same : goal.returns-clause-same
returns-clause-same g c =
    λ k.
    let f = key_of g.R.Record.number g.E.Entry.owner g.E.Entry.key c.args.table.now.rows in
    let sorted = c.sort_by_keys.new.entries.items in
    let kept : c.dedup_by.new.self.items ≡ dedup (λ x y. is_eq (compare_by f x y)) sorted =
    dedup_same _ (λ x y. is_eq (compare_by f x y)) _ (λ x y b f' x' y' k. search rules) _ _ c.dedup_by.ensures.filtered in
    ap (λ es. has_key k (map f es)) kept
    ∙ (has-dedup f key_total k sorted ∙ has-permutation f k c.args.entries.now.items sorted c.sort_by_keys.ensures.permutation)

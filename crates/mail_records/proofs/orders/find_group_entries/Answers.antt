use Rattle.std.proofs.Common.{rules, ◌≡◌, ◌≤◌, true, false, not, map, take, drop, length, sym, ap, ◌∙◌, subst}
use Rattle.std.specs.List.Sorted.{IsPartitionPoint}
use Rattle.std.specs.Ordering.{is_lt, is_gt, nat_cmp}
use Rattle.std.specs.Option.{option_cmp}
use Rattle.std.proofs.lemmas.List.Sorted.{IsPartitionPoint-from_clause}
use Rattle.mail_records.specs.Orders.{Key, KeysRise, key_of}
use Rattle.mail_records.proofs.Rising.{parted, part_is, rise_part}
use Rattle.mail_records.proofs.KeyOrder.{key_total}
use Rattle.mail_records.proofs.KeyTables.{part_exact, group_same, group_downs}
use Rattle.mail_records.proofs.orders.find_group_entries.Goals as goal

pub returns : goal.returns
returns g c =
    let e = g.E.Entry in
    let number = g.R.Record.number in
    let rows = c.args.table.now.rows in
    let f = key_of number e.owner e.key rows in
    let es = c.args.entries.now in
    let m = c.partition_point-from.result in
    let n = c.partition_point-upto.result in
    let rest = c.split_at.result.1.now in
    let is_rest : rest ≡ drop m es = c.split_at.ensures.back in
    let order = λ (k : Key). option_cmp nat_cmp k.group c.args.group in
    let rise = c.requires.exact.rise in
    let low =
    IsPartitionPoint-from_clause (λ y. is_lt (order (f y))) es m c.partition_point-from.ensures.partitioned
    (parted key_total f (λ x. is_lt (order x)) (λ x y l. (group_downs c.args.group x y l).0) es rise)
    (λ a r h k. search rules) in
    let high =
    IsPartitionPoint-from_clause (λ y. not (is_gt (order (f y)))) rest n c.partition_point-upto.ensures.partitioned
    (parted key_total f (λ x. not (is_gt (order x))) (λ x y l. (group_downs c.args.group x y l).1) rest
    (subst (λ zs. KeysRise (map f zs)) (sym is_rest) (rise_part key_total f m es rise)))
    (λ a r h k. search rules) in
    let above = subst (λ zs. IsPartitionPoint (λ y. not (is_gt (order (f y))) ≡ true) (λ y. not (is_gt (order (f y))) ≡ false) zs n) is_rest high in
    let short : n ≤ length (drop m es) = subst (λ zs. n ≤ length zs) is_rest c.partition_point-upto.ensures.bound in
    let part = part_is key_total f order es m n c.partition_point-from.ensures.bound short low above in
    let lent : c.split_at-2.result.0.now ≡ take n (drop m es) = c.split_at-2.ensures.front ∙ ap (take n) is_rest in
    let exact = part_exact number e.keys rows order (map f es) (map f c.split_at-2.result.0.now) (group_same c.args.group) c.requires.exact (ap (map f) lent ∙ part) in
    record { exact = exact }

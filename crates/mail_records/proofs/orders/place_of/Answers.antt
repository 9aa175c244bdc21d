use Rattle.std.proofs.Common.{rules}
use Rattle.std.specs.Ordering.{is_lt}
use Rattle.std.proofs.lemmas.List.Sorted.{IsPartitionPoint-from_clause}
use Rattle.mail_records.specs.Orders.{key_cmp, key_of}
use Rattle.mail_records.proofs.Rising.{IsPlaceBy-from_partition, parted, below_down}
use Rattle.mail_records.proofs.KeyOrder.{key_total}
use Rattle.mail_records.proofs.orders.place_of.Goals as goal

pub returns : goal.returns
returns g c =
    let e = g.E.Entry in
    let f = key_of g.R.Record.number e.owner e.key c.args.table.now.rows in
    let k = c.args.key.now in
    let es = c.args.entries.now in
    IsPlaceBy-from_partition key_total f k es c.partition_point.result c.partition_point.ensures.bound
    (IsPartitionPoint-from_clause (λ y. is_lt (key_cmp (f y) k)) es c.partition_point.result c.partition_point.ensures.partitioned
    (parted key_total f (λ x. is_lt (key_cmp x k)) (below_down key_total f k) es c.requires)
    (λ a r h k. search rules))

use Rattle.std.proofs.Common.{◌≡◌, ◌++◌, ◌≤◌, take, drop, length, rules, ltb, sym, ap, ◌∙◌, subst, arith, take-append-drop}
use Rattle.std.specs.List.{slice_range}
use Rattle.std.proofs.lemmas.List.{length-take-le}
use Rattle.std.proofs.lemmas.List.Folds.{drop_split}
use Rattle.std.proofs.lemmas.List.Sorted.{IsPartitionPoint-from_clause, IsPartitionedBy-ltb}
use Rattle.mail_records.specs.Tables.{IsTable, IsPlace}
use Rattle.mail_records.proofs.Places.{IsPlace-from_partition, IsNonDecreasingBy-from_table}
use Rattle.mail_records.proofs.Searches.{place_among, table_part}
use Rattle.mail_records.proofs.table.find_place_between.Goals as goal

pub returns : goal.returns
returns g c =
    let number = g.R.Record.number in
    let xs = c.args.rows.now in
    let n = c.args.number in
    let low = c.args.low in
    let high = c.args.high in
    let part = slice_range xs low high in
    let split : xs ≡ take low xs ++ (part ++ drop high xs) = sym (take-append-drop low xs) ∙ ap (λ zs. take low xs ++ zs) (drop_split xs low high c.requires.order) in
    let table : IsTable number part = table_part number (take low xs) part (drop high xs) (subst (IsTable number) split c.requires.table) in
    let within : low ≤ length xs = omega (arith, c.requires.order, c.requires.high.within) in
    let place : IsPlace number n part c.partition_point.result = IsPlace-from_partition number n part c.partition_point.result c.partition_point.ensures.bound
    (IsPartitionPoint-from_clause (λ y. ltb (number y) n) part c.partition_point.result c.partition_point.ensures.partitioned
    (IsPartitionedBy-ltb number part n (IsNonDecreasingBy-from_table number part table))
    (λ a r f k. search rules)) in
    place_among number n xs (take low xs) part (drop high xs) low c.partition_point.result split (sym (length-take-le low xs within)) c.requires.low c.requires.high.from place

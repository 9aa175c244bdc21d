use Rattle.std.proofs.Common.{rules}
use Rattle.std.specs.Prelude.{int_lt}
use Rattle.std.proofs.lemmas.List.Sorted.{IsPartitionPoint-from_clause}
use Rattle.mail_records.proofs.Rising.{parted}
use Rattle.query_engine.proofs.RowLists.{below_time, rising_total, run_starts}
use Rattle.query_engine.proofs.rows.run_start.Goals as goal

pub returns : goal.returns
returns g c =
    let f = g.E.Candidate.timed in
    let es = c.args.entries.now in
    let time = c.args.time in
    run_starts f time es c.partition_point.result c.partition_point.ensures.bound
    (IsPartitionPoint-from_clause (λ y. int_lt (f y).received time) es c.partition_point.result c.partition_point.ensures.partitioned
    (parted rising_total f (λ x. int_lt x.received time) (below_time time) es c.requires) (λ a r h k. search rules))

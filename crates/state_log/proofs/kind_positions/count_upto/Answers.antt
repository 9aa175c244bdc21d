use Rattle.std.proofs.Common.{rules, leb}
use Rattle.std.proofs.lemmas.List.Sorted.{IsPartitionPoint-from_clause, IsPartitionedBy-leb}
use Rattle.state_log.proofs.Spanned.{partition_is}
use Rattle.state_log.proofs.kind_positions.count_upto.Goals as goal

pub returns-clause-value : goal.returns-clause-value
returns-clause-value c =
    let ps = c.args.positions.now in
    let k = c.args.position in
    let count = c.partition_point.result in
    partition_is (λ p. leb p k) ps count c.partition_point.ensures.bound
    (IsPartitionPoint-from_clause (λ p. leb p k) ps count c.partition_point.ensures.partitioned (IsPartitionedBy-leb (λ n. n) ps k c.requires) (λ a r f h. search rules))

use Rattle.std.proofs.Common.{rules, ◌≡◌, ◌≤◌, true, false, not, take, drop, length, sym, ap, ◌∙◌, subst}
use Rattle.std.specs.List.Sorted.{IsPartitionPoint, IsPartitionedBy}
use Rattle.std.specs.Ordering.{is_lt, is_gt}
use Rattle.std.proofs.lemmas.List.Sorted.{IsPartitionPoint-from_clause}
use Rattle.mail_counts.specs.declared.members.Member.{Member}
use Rattle.mail_counts.proofs.Parted.{below_parted, part_of_group, rest_parted, to_group}
use Rattle.mail_counts.proofs.members.lend_group.Goals as goal

pub returns : goal.returns
returns c =
    let ms = c.args.members.now in
    let g = c.args.group in
    let m = c.partition_point-from.result in
    let n = c.partition_point-upto.result in
    let rest = c.split_at.result.1.now in
    let is_rest : rest ≡ drop m ms = c.split_at.ensures.back in
    let low =
    IsPartitionPoint-from_clause (λ (x : Member). is_lt (to_group g x)) ms m c.partition_point-from.ensures.partitioned
    (below_parted g ms c.requires.rise) (λ a r h k. search rules) in
    let high =
    IsPartitionPoint-from_clause (λ (x : Member). not (is_gt (to_group g x))) rest n c.partition_point-upto.ensures.partitioned
    (subst (λ zs. IsPartitionedBy (λ (x : Member). not (is_gt (to_group g x))) zs) (sym is_rest) (rest_parted g m ms c.requires.rise))
    (λ a r h k. search rules) in
    let above = subst (λ zs. IsPartitionPoint (λ (x : Member). not (is_gt (to_group g x)) ≡ true) (λ (x : Member). not (is_gt (to_group g x)) ≡ false) zs n) is_rest high in
    let short : n ≤ length (drop m ms) = subst (λ zs. n ≤ length zs) is_rest c.partition_point-upto.ensures.bound in
    c.split_at-2.ensures.front ∙ (ap (take n) is_rest ∙ part_of_group g ms m n c.partition_point-from.ensures.bound short low above)

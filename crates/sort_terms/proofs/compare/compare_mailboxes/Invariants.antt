use Rattle.std.proofs.Common.{◌≡◌, drop}
use Rattle.sort_terms.specs.Comparators.{mailboxes_cmp}
use Rattle.sort_terms.proofs.compare.compare_mailboxes.Given as goal

abbrev pub invariant-loop-comparator : goal.invariant-loop-comparator
invariant-loop-comparator l = mailboxes_cmp (drop l.comparator-index l.comparators) l.left l.right ≡ mailboxes_cmp l.comparators l.left l.right

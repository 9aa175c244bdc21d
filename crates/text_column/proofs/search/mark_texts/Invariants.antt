use Rattle.std.proofs.Common.{◌≡◌, ◌≤◌, ◌-◌, length}
use Rattle.text_column.specs.Columns.{start_at}
use Rattle.text_column.proofs.Marked.{AreSetTo}
use Rattle.text_column.proofs.search.mark_texts.Given as goal

abbrev pub invariant-loop-ahead : goal.invariant-loop-ahead
invariant-loop-ahead l = record {
  done : AreSetTo l.needle l.bytes l.ends l.initial.marks l.marks l.next;
  from : l.from ≡ start_at 0 l.ends l.next;
  within : l.next ≤ length l.ends;
}

abbrev pub decreases-loop-ahead : goal.decreases-loop-ahead
decreases-loop-ahead l = length l.ends - l.next

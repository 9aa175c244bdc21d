use Rattle.std.proofs.Common.{◌≡◌, ◌++◌, drop}
use Rattle.jm_base.specs.Splices.{has, with_index}
use Rattle.query_changes.proofs.touched.place_touched.Given as goal

abbrev pub invariant-loop-number : goal.invariant-loop-number
invariant-loop-number l = record {
  counted : l.index ≡ l.number-index;
  rest : l.added.items ++ with_index (has l.touched) l.index (drop l.number-index l.list) ≡ with_index (has l.touched) 0 l.list;
}

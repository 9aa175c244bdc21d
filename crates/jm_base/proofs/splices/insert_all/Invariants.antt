use Rattle.std.proofs.Common.{◌≡◌, ◌++◌, drop}
use Rattle.jm_base.specs.Splices.{insert_all}
use Rattle.jm_base.proofs.splices.insert_all.Given as goal

abbrev pub invariant-loop-item : goal.invariant-loop-item
invariant-loop-item l = record {
  counted : l.place ≡ l.item-index;
  rest : insert_all l.place (l.front.items ++ l.rest) (drop l.item-index l.added) ≡ insert_all 0 l.list l.added;
}

use Rattle.std.proofs.Common.{◌≡◌, ◌≤◌, map, take, vec_len}
use Rattle.std.specs.Prelude.{vec_capacity}
use Rattle.account_lock.specs.Passes.{split_off}
use Rattle.account_hall.proofs.Fronts.{split_at}
use Rattle.account_hall.proofs.front.split_all.Given as goal

abbrev pub invariant-loop-i : goal.invariant-loop-i
invariant-loop-i g l = record {
  roots : l.roots.items ≡ split_at l.i l.fn.roots.items;
  list : l.list.items ≡ map split_off (take l.i l.fn.roots.items);
  count : vec_len l.list ≡ l.i;
  room : vec_len l.rooms ≤ vec_capacity l.list;
}

use Rattle.std.proofs.Common.{◌≡◌, ◌≤◌, ◌+◌, ◌++◌, map, vec_len}
use Rattle.std.specs.List.{AllByRecursion}
use Rattle.std.specs.Prelude.{vec_capacity}
use Rattle.account_hall.specs.Building.{IsFresh, first_root}
use Rattle.account_hall.proofs.Building.{named_all}
use Rattle.account_hall.proofs.build.share_all.Given as goal

abbrev pub invariant-loop-alloc : goal.invariant-loop-alloc
invariant-loop-alloc g l = record {
  fresh : AllByRecursion IsFresh l.accounts.items;
  accounts : l.fn.accounts.items ≡ l.accounts.items ++ named_all l.rooms.items;
  roots : l.roots.items ≡ map (λ r. first_root r.lock) l.rooms.items;
  count : vec_len l.accounts + vec_len l.rooms ≡ vec_len l.fn.accounts;
  same : vec_len l.roots ≡ vec_len l.rooms;
  capacity : vec_capacity l.accounts ≡ vec_capacity l.fn.accounts;
  rooms : vec_len l.fn.accounts ≤ vec_capacity l.rooms;
  places : vec_len l.fn.accounts ≤ vec_capacity l.roots;
}

abbrev pub decreases-loop-alloc : goal.decreases-loop-alloc
decreases-loop-alloc g l = vec_len l.accounts

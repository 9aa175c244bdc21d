use Rattle.std.proofs.Common.{◌≡◌, ◌≤◌, ◌+◌, ◌++◌, map, vec_len}
use Rattle.std.specs.Prelude.{vec_capacity}
use Rattle.account_hall.specs.Building.{first_root}
use Rattle.account_hall.proofs.Building.{named_all}
use Rattle.account_hall.proofs.build.unshare_all.Given as goal

abbrev pub invariant-loop-rooms : goal.invariant-loop-rooms
invariant-loop-rooms g l = record {
  accounts : l.accounts.items ++ named_all l.rooms.items ≡ l.fn.accounts.items ++ named_all l.fn.rooms.items;
  roots : l.roots.items ≡ map (λ r. first_root r.lock) l.rooms.items;
  same : vec_len l.roots ≡ vec_len l.rooms;
  space : vec_len l.accounts + vec_len l.rooms ≤ vec_capacity l.accounts;
}

abbrev pub decreases-loop-rooms : goal.decreases-loop-rooms
decreases-loop-rooms g l = vec_len l.rooms

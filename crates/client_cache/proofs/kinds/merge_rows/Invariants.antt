use Rattle.std.proofs.Common.{◌≡◌, ◌≤◌, ◌+◌, ◌++◌, map, length}
use Rattle.std.specs.Prelude.{vec_capacity}
use Rattle.jm_json.specs.Json.{member_of}
use Rattle.jm_json.specs.Order.{KeysRise, put_all}
use Rattle.client_cache.proofs.kinds.merge_rows.Given as goal

abbrev pub invariant-loop-member : goal.invariant-loop-member
invariant-loop-member l = record {
  value : put_all (map member_of l.fn.newer.items) (map member_of l.fn.older.items) ≡ map member_of l.merged.items ++ put_all (map member_of l.upper.items) (map member_of l.lower.items);
  lower : KeysRise (map member_of l.lower.items);
  upper : KeysRise (map member_of l.upper.items);
  room : length l.merged.items + (length l.lower.items + length l.upper.items) ≤ vec_capacity l.merged;
}

abbrev pub decreases-loop-member : goal.decreases-loop-member
decreases-loop-member l = length l.lower.items + length l.upper.items

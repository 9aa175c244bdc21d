use Rattle.std.proofs.Common.{◌≡◌, ◌≤◌, ◌+◌, ◌*◌, ◌++◌, length, map, drop, option_map}
use Rattle.jm_json.specs.Json.{tree_of}
use Rattle.result_refs.specs.References.{gathered, walked}
use Rattle.result_refs.specs.Parts.{later_parts}
use Rattle.result_refs.specs.Costs.{parts_bytes, sum_bytes}
use Rattle.result_refs.specs.declared.room.TheConstants.{VALUE_BYTES}
use Rattle.result_refs.proofs.path.+walk.Given as goal

abbrev pub decreases-walk : goal.decreases-walk
decreases-walk l = 6 * length l.path.now + 5

abbrev pub decreases-take_step : goal.decreases-take_step
decreases-take_step l = 6 * length l.more.now + 4

abbrev pub decreases-take_list_step : goal.decreases-take_list_step
decreases-take_list_step l = 6 * length l.more.now + 3

abbrev pub decreases-take_child : goal.decreases-take_child
decreases-take_child l = 6 * length l.more.now + 2

abbrev pub decreases-gather : goal.decreases-gather
decreases-gather l = 6 * length l.path.now + 1

abbrev pub decreases-walk_on : goal.decreases-walk_on
decreases-walk_on l = 6 * length l.path.now

abbrev pub invariant-gather-loop-item : goal.invariant-gather-loop-item
invariant-gather-loop-item l = record {
  found : gathered (walked (later_parts l.path)) (map tree_of l.items)
      ≡ option_map (λ rs. l.found ++ rs) (gathered (walked (later_parts l.path)) (map tree_of (drop l.item-index l.items)));
  room : VALUE_BYTES * (length l.items + 1) + sum_bytes (parts_bytes (later_parts l.path)) (map tree_of l.items) + l.room
      ≤ sum_bytes (parts_bytes (later_parts l.path)) (map tree_of (drop l.item-index l.items)) + l.fn.room;
  less : l.room ≤ l.fn.room;
}

use Rattle.std.proofs.Common.{◌-◌, ◌≤◌, length, map, take, drop}
use Rattle.jm_json.specs.Json.{member_of}
use Rattle.jm_json.specs.KeyIndices.{AllBelow, AllAbove}
use Rattle.client_cache.proofs.looking.find_object.Given as goal

abbrev pub invariant-halves : goal.invariant-halves
invariant-halves l =
    (l.high ≤ length l.rows) × (l.low ≤ l.high)
    × AllBelow l.id (take l.low (map member_of l.rows)) × AllAbove l.id (drop l.high (map member_of l.rows))

abbrev pub decreases-halves : goal.decreases-halves
decreases-halves l = l.high - l.low

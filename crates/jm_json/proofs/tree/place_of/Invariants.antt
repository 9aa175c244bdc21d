use Rattle.std.proofs.Common.{◌-◌, ◌<◌, ◌≤◌, length, map, take, drop}
use Rattle.jm_json.specs.Json.{member_of}
use Rattle.jm_json.specs.KeyIndices.{AllBelow, AllAbove}
use Rattle.jm_json.proofs.tree.place_of.Given as goal

abbrev pub invariant-halves : goal.invariant-halves
invariant-halves l =
    (l.high ≤ length l.members) × (l.low ≤ l.high) × (l.low < l.high → l.at < l.high) × (l.low < l.high → l.low ≤ l.at)
    × AllBelow l.name (take l.low (map member_of l.members)) × AllAbove l.name (drop l.high (map member_of l.members))

abbrev pub decreases-halves : goal.decreases-halves
decreases-halves l = l.high - l.low

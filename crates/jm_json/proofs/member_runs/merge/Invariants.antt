use Rattle.std.proofs.Common.{◌≡◌, ◌+◌, ◌++◌, map, length}
use Rattle.jm_json.specs.Json.{member_of}
use Rattle.jm_json.specs.Order.{KeysRise, put_all}
use Rattle.jm_json.proofs.member_runs.merge.Given as goal

abbrev pub invariant-loop-member : goal.invariant-loop-member
invariant-loop-member l =
    (put_all l.fn.newer l.fn.older ≡ map member_of l.merged.items ++ put_all (map member_of l.upper.items) (map member_of l.lower.items))
    × KeysRise (map member_of l.lower.items)
    × KeysRise (map member_of l.upper.items)

abbrev pub decreases-loop-member : goal.decreases-loop-member
decreases-loop-member l = length l.lower.items + length l.upper.items

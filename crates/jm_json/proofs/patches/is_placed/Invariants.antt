use Rattle.std.proofs.Common.{◌≡◌, ◌≤◌, ◌<◌, [], ◌∷◌, length, take, drop}
use Rattle.jm_json.specs.Json.{tree_of}
use Rattle.jm_json.specs.Pointer.{cut}
use Rattle.jm_json.specs.Patch.{is_placed}
use Rattle.jm_json.proofs.patches.is_placed.Given as goal

abbrev pub invariant-parts : goal.invariant-parts
invariant-parts l =
    (is_placed (cut l.initial.rest) (tree_of l.initial.target) ≡ is_placed (cut l.rest) (tree_of l.target))
    × (l.end ≤ length l.rest)
    × (l.end ≡ length l.rest → cut l.rest ≡ l.rest ∷ [])
    × (l.end < length l.rest → cut l.rest ≡ take l.end l.rest ∷ cut (drop 1 (drop l.end l.rest)))

abbrev pub decreases-parts : goal.decreases-parts
decreases-parts l = length l.rest

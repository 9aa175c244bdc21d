use Rattle.std.proofs.Common.{◌≡◌, map, drop}
use Rattle.jm_json.specs.Json.{member_of}
use Rattle.draft_form.specs.Bodies.{has_values}
use Rattle.draft_form.proofs.bodies.has_values.Given as goal

abbrev pub invariant-loop-member : goal.invariant-loop-member
invariant-loop-member l =
    has_values (map member_of l.members) ≡ has_values (map member_of (drop l.member-index l.members))

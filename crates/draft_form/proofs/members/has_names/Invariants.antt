use Rattle.std.proofs.Common.{◌≡◌, map, drop}
use Rattle.jm_json.specs.Json.{member_of}
use Rattle.draft_form.specs.Members.{has_names}
use Rattle.draft_form.proofs.members.has_names.Given as goal

abbrev pub invariant-loop-member : goal.invariant-loop-member
invariant-loop-member l =
    has_names (map (λ t. t.now) l.names) (map member_of l.members)
    ≡ has_names (map (λ t. t.now) l.names) (map member_of (drop l.member-index l.members))

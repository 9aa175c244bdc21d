use Rattle.std.proofs.Common.{◌≡◌, map, drop}
use Rattle.jm_json.specs.Json.{member_of}
use Rattle.jm_json.proofs.Parts.{find_part}
use Rattle.jm_json.proofs.paths.find_escaped_member.Given as goal

abbrev pub invariant-loop-member : goal.invariant-loop-member
invariant-loop-member l = find_part l.part (map member_of l.members) ≡ find_part l.part (map member_of (drop l.member-index l.members))

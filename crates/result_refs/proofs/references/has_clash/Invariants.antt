use Rattle.std.proofs.Common.{◌≡◌, map, drop}
use Rattle.jm_json.specs.Json.{member_of}
use Rattle.result_refs.specs.References.{clashes}
use Rattle.result_refs.proofs.references.has_clash.Given as goal

abbrev pub invariant-loop-member : goal.invariant-loop-member
invariant-loop-member l = clashes (map member_of l.members) l.all ≡ clashes (map member_of (drop l.member-index l.members)) l.all

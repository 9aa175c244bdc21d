use Rattle.std.proofs.Common.{◌≡◌, map, drop}
use Rattle.std.specs.List.{list_any}
use Rattle.jm_json.specs.Json.{member_of}
use Rattle.result_refs.specs.References.{is_marked}
use Rattle.method_batch.proofs.prepare.has_marks.Given as goal

abbrev pub invariant-loop-member : goal.invariant-loop-member
invariant-loop-member l = list_any (λ m. is_marked m.0) (map member_of l.members) ≡ list_any (λ m. is_marked m.0) (map member_of (drop l.member-index l.members))

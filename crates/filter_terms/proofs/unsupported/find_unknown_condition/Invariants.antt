use Rattle.std.proofs.Common.{◌≡◌, map, drop}
use Rattle.jm_json.specs.Tree.{fields_of}
use Rattle.jm_json.specs.Json.{member_of}
use Rattle.filter_terms.specs.Forms.{unknown_in}
use Rattle.filter_terms.proofs.unsupported.find_unknown_condition.Given as goal

abbrev pub invariant-loop-member : goal.invariant-loop-member
invariant-loop-member l = unknown_in l.kind (fields_of (map member_of (drop l.member-index l.members))) ≡ unknown_in l.kind (fields_of (map member_of l.members))

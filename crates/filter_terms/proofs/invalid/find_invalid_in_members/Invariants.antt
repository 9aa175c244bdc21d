use Rattle.std.proofs.Common.{◌≡◌, map, drop}
use Rattle.jm_json.specs.Tree.{fields_of}
use Rattle.jm_json.specs.Json.{member_of}
use Rattle.filter_terms.specs.Forms.{misfit_in}
use Rattle.filter_terms.proofs.invalid.find_invalid_in_members.Given as goal

abbrev pub invariant-loop-member : goal.invariant-loop-member
invariant-loop-member l = misfit_in l.kind (fields_of (map member_of (drop l.member-index l.members))) ≡ misfit_in l.kind (fields_of (map member_of l.members))

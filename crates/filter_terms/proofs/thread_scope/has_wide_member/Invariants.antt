use Rattle.std.proofs.Common.{◌≡◌, map, drop}
use Rattle.jm_json.specs.Tree.{fields_of}
use Rattle.jm_json.specs.Json.{member_of}
use Rattle.filter_terms.specs.ThreadScope.{members_wide}
use Rattle.filter_terms.proofs.thread_scope.has_wide_member.Given as goal

abbrev pub invariant-loop-member : goal.invariant-loop-member
invariant-loop-member l = members_wide l.kind (fields_of (map member_of (drop l.member-index l.members))) ≡ members_wide l.kind (fields_of (map member_of l.members))

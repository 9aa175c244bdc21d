use Rattle.std.proofs.Common.{◌≡◌, ◌≤◌, ◌+◌, map, drop}
use Rattle.jm_json.specs.Json.{member_of}
use Rattle.draft_form.specs.Names.{twin_count}
use Rattle.draft_form.proofs.names.count_twins.Given as goal

abbrev pub invariant-loop-member : goal.invariant-loop-member
invariant-loop-member l = record {
  small : l.count ≤ l.member-index;
  value : l.count + twin_count l.name (map member_of (drop l.member-index l.members)) ≡ twin_count l.name (map member_of l.members);
}

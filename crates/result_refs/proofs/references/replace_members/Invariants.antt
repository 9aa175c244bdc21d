use Rattle.std.proofs.Common.{◌≡◌, ◌≤◌, ◌+◌, [], map, length}
use Rattle.jm_json.specs.Json.{member_of}
use Rattle.jm_json.specs.Invocations.{call_of}
use Rattle.result_refs.specs.References.{arguments}
use Rattle.result_refs.specs.Costs.{arguments_bytes}
use Rattle.result_refs.proofs.references.replace_members.Given as goal

abbrev pub invariant-loop-member : goal.invariant-loop-member
invariant-loop-member l = record {
  found : arguments [] l.fn.members (map call_of l.responses) ≡ arguments l.found (map member_of l.rest.items) (map call_of l.responses);
  room : arguments_bytes l.fn.members (map call_of l.responses) + l.room ≤ arguments_bytes (map member_of l.rest.items) (map call_of l.responses) + l.fn.room;
  less : l.room ≤ l.fn.room;
}

abbrev pub decreases-loop-member : goal.decreases-loop-member
decreases-loop-member l = length l.rest.items

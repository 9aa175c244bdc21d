use Rattle.std.proofs.Common.{◌≡◌, ◌++◌, map, length}
use Rattle.std.specs.Map.{keys_of}
use Rattle.jm_json.specs.Json.{member_of}
use Rattle.mailbox_creates.proofs.response.collect_names.Given as goal

abbrev pub invariant-loop-member : goal.invariant-loop-member
invariant-loop-member l = l.names ++ keys_of (map member_of l.rest.items) ≡ keys_of l.fn.properties

abbrev pub decreases-loop-member : goal.decreases-loop-member
decreases-loop-member l = length l.rest.items

use Rattle.std.proofs.Common.{◌≡◌, map, ◌++◌, option_map, length}
use Rattle.jm_json.specs.Json.{member_of}
use Rattle.method_batch.specs.Request.{created_from}
use Rattle.method_batch.proofs.created.read_pairs.Given as goal

abbrev pub invariant-loop-member : goal.invariant-loop-member
invariant-loop-member l = created_from l.fn.members ≡ option_map (λ cs. l.made ++ cs) (created_from (map member_of l.rest.items))

abbrev pub decreases-loop-member : goal.decreases-loop-member
decreases-loop-member l = length l.rest.items

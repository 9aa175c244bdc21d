use Rattle.std.proofs.Common.{◌≡◌, map, ◌++◌, length}
use Rattle.jm_json.specs.Invocations.{call_of}
use Rattle.jm_json.specs.Responses.{call_tree}
use Rattle.method_batch.proofs.response.call_lists.Given as goal

abbrev pub invariant-loop-response : goal.invariant-loop-response
invariant-loop-response l = map call_tree l.fn.responses ≡ l.items ++ map call_tree (map call_of l.rest.items)

abbrev pub decreases-loop-response : goal.decreases-loop-response
decreases-loop-response l = length l.rest.items

use Rattle.std.proofs.Common.{◌≡◌, map, drop}
use Rattle.jm_json.specs.Invocations.{call_of}
use Rattle.result_refs.specs.References.{response_of}
use Rattle.result_refs.proofs.references.find_response.Given as goal

abbrev pub invariant-loop-response : goal.invariant-loop-response
invariant-loop-response l = response_of l.id (map call_of l.responses) ≡ response_of l.id (map call_of (drop l.response-index l.responses))

use Rattle.std.proofs.Common.{◌≡◌, ◌++◌, map, drop}
use Rattle.json.specs.Tree.{json_tokens, items_tokens}
use Rattle.serde_json.specs.Written.{outline, items_outline}
use Rattle.jm_json.specs.Tree.{trees_of}
use Rattle.jm_json.specs.JsonValues.{data_of, items_of}
use Rattle.jm_json.specs.Invocations.{call_of}
use Rattle.jm_json.specs.Requests.{calls_tree}
use Rattle.jm_json.specs.Responses.{call_tree}
use Rattle.jm_json.specs.RoundTrips.{AreReadBack}
use Rattle.jm_json.proofs.responses.put_calls.Given as goal

-- what is left are the tokens of the calls from here on; if these are read back, all are
abbrev pub invariant-loop-call : goal.invariant-loop-call
invariant-loop-call l = record {
  tokens : l.out.tokens ++ items_tokens (items_outline (items_of (trees_of (map call_tree (map call_of (drop l.call-index l.calls))))))
      ≡ l.fn.out.tokens ++ json_tokens (outline (data_of (calls_tree (map call_of l.calls))));
  before : l.out.before ≡ l.fn.out.before;
  read : AreReadBack (items_of (trees_of (map call_tree (map call_of (drop l.call-index l.calls))))) → AreReadBack (items_of (trees_of (map call_tree (map call_of l.calls))));
}

use Rattle.std.proofs.Common.{[], ◌∷◌, map, codes}
use Rattle.json.specs.Token.{begin_object, end_object, key, string}
use Rattle.json.specs.Tree.{json_tokens}
use Rattle.serde_json.specs.Written.{outline}
use Rattle.jm_json.specs.JsonValues.{data_of}
use Rattle.jm_json.specs.Invocations.{call_of}
use Rattle.jm_json.specs.Requests.{calls_tree}
use Rattle.jm_json.proofs.Writings.{members_added}
use Rattle.jm_json.proofs.responses.put_responses.Goals as goal

pub returns-clause-tokens : goal.returns-clause-tokens
returns-clause-tokens c =
    members_added c.args.out.now.tokens c.begin_object.new.self.tokens c.key.new.self.tokens c.put_calls.new.out.tokens c.key-2.new.self.tokens c.string.new.self.tokens c.end_object.new.self.tokens
    (json_tokens (outline (data_of (calls_tree (map call_of c.args.responses.now))))) (string c.args.state.now ∷ [])
    begin_object (key (codes "methodResponses")) (key (codes "sessionState")) end_object
    c.in_ok-begin_object.ensures.ok c.in_ok-key.ensures.ok c.in_ok-put_calls.ensures.tokens c.in_ok-key-2.ensures.ok c.in_ok-string.ensures.ok c.in_ok-end_object.ensures.ok

use Rattle.std.proofs.Common.{Bor, List, ℕ, map, codes}
use Rattle.json.specs.Token.{begin_object, end_object, key}
use Rattle.json.specs.Tree.{json_tokens}
use Rattle.serde_json.specs.Written.{outline}
use Rattle.jm_json.specs.JsonValues.{data_of}
use Rattle.jm_json.specs.Invocations.{call_of}
use Rattle.jm_json.specs.Requests.{calls_tree, texts_tree}
use Rattle.jm_json.proofs.Writings.{members_added}
use Rattle.jm_json.proofs.RequestTexts.{request_back}
use Rattle.jm_json.proofs.requests.put_request.Goals as goal

pub returns-clause-tokens : goal.returns-clause-tokens
returns-clause-tokens c =
    let using = map (λ (s : Bor (List ℕ)). s.now) c.args.capabilities.now in
    members_added c.args.out.now.tokens c.begin_object.new.self.tokens c.key.new.self.tokens c.put_calls.new.out.tokens c.key-2.new.self.tokens c.put_texts.new.out.tokens c.end_object.new.self.tokens
    (json_tokens (outline (data_of (calls_tree (map call_of c.args.calls.now))))) (json_tokens (outline (data_of (texts_tree using))))
    begin_object (key (codes "methodCalls")) (key (codes "using")) end_object
    c.in_ok-begin_object.ensures.ok c.in_ok-key.ensures.ok c.in_ok-put_calls.ensures.tokens c.in_ok-key-2.ensures.ok c.in_ok-put_texts.ensures.tokens c.in_ok-end_object.ensures.ok

pub returns-clause-read : goal.returns-clause-read
returns-clause-read c = request_back (map (λ (s : Bor (List ℕ)). s.now) c.args.capabilities.now) (map call_of c.args.calls.now) c.in_ok-put_calls.ensures.read

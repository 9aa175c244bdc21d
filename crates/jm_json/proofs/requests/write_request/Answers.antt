use Rattle.std.proofs.Common.{Bor, List, ℕ, map, [], ◌++◌, ap, ◌∙◌}
use Rattle.json.specs.Print.{print}
use Rattle.json.specs.Tree.{json_tokens}
use Rattle.serde_json.specs.Written.{outline}
use Rattle.jm_json.specs.Invocations.{call_of}
use Rattle.jm_json.specs.Requests.{request_tree}
use Rattle.jm_json.specs.JsonValues.{data_of}
use Rattle.jm_json.proofs.Writings.{text_written, written_back}
use Rattle.jm_json.proofs.requests.write_request.Goals as goal

pub returns-clause-text : goal.returns-clause-text
returns-clause-text c =
    let d = data_of (request_tree (map (λ (s : Bor (List ℕ)). s.now) c.args.capabilities.now) (map call_of c.args.calls.now)) in
    let none = c.in_ok-put_request.ensures.before ∙ c.new-out.ensures.before ∙ c.in_ok-bytes.ensures.items in
    let added = c.in_ok-put_request.ensures.tokens ∙ ap (λ ts. ts ++ json_tokens (outline d)) c.new-out.ensures.tokens in
    text_written [] _ _ d (c.from_vec.ensures ∙ c.into_inner.ensures.items ∙ ap (λ b. b ++ print c.put_request.new.out.tokens) none) added

pub returns-clause-reads_back : goal.returns-clause-reads_back
returns-clause-reads_back c shallow good =
    let t = request_tree (map (λ (s : Bor (List ℕ)). s.now) c.args.capabilities.now) (map call_of c.args.calls.now) in
    let d = data_of t in
    let none = c.in_ok-put_request.ensures.before ∙ c.new-out.ensures.before ∙ c.in_ok-bytes.ensures.items in
    let added = c.in_ok-put_request.ensures.tokens ∙ ap (λ ts. ts ++ json_tokens (outline d)) c.new-out.ensures.tokens in
    let text = text_written [] _ _ d (c.from_vec.ensures ∙ c.into_inner.ensures.items ∙ ap (λ b. b ++ print c.put_request.new.out.tokens) none) added in
    written_back t _ _ text added c.into_inner.ensures.reads_back c.into_inner.ensures.utf8 c.in_ok-put_request.ensures.read shallow good

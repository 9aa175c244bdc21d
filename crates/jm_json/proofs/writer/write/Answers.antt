use Rattle.std.proofs.Common.{[], ◌++◌, ap, ◌∙◌}
use Rattle.json.specs.Print.{print}
use Rattle.json.specs.Tree.{json_tokens}
use Rattle.serde_json.specs.Written.{outline}
use Rattle.jm_json.specs.Json.{tree_of}
use Rattle.jm_json.specs.JsonValues.{data_of}
use Rattle.jm_json.proofs.Writings.{text_written, written_back}
use Rattle.jm_json.proofs.writer.write.Goals as goal

pub returns-clause-text : goal.returns-clause-text
returns-clause-text c =
    let d = data_of (tree_of c.args.tree.now) in
    let none = c.in_ok-put_tree.ensures.before ∙ c.new-out.ensures.before ∙ c.in_ok-bytes.ensures.items in
    let added = c.in_ok-put_tree.ensures.tokens ∙ ap (λ ts. ts ++ json_tokens (outline d)) c.new-out.ensures.tokens in
    text_written [] _ _ d (c.from_vec.ensures ∙ c.into_inner.ensures.items ∙ ap (λ b. b ++ print c.put_tree.new.out.tokens) none) added

pub returns-clause-reads_back : goal.returns-clause-reads_back
returns-clause-reads_back c shallow good =
    let t = tree_of c.args.tree.now in
    let d = data_of t in
    let none = c.in_ok-put_tree.ensures.before ∙ c.new-out.ensures.before ∙ c.in_ok-bytes.ensures.items in
    let added = c.in_ok-put_tree.ensures.tokens ∙ ap (λ ts. ts ++ json_tokens (outline d)) c.new-out.ensures.tokens in
    let text = text_written [] _ _ d (c.from_vec.ensures ∙ c.into_inner.ensures.items ∙ ap (λ b. b ++ print c.put_tree.new.out.tokens) none) added in
    written_back t _ _ text added c.into_inner.ensures.reads_back c.into_inner.ensures.utf8 c.in_ok-put_tree.ensures.read shallow good

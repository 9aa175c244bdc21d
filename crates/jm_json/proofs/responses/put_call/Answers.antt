use Rattle.std.proofs.Common.{[], ◌∷◌, ◌++◌, refl, ap, ◌∙◌}
use Rattle.json.specs.Token.{begin_array, end_array, string}
use Rattle.json.specs.Tree.{json_tokens}
use Rattle.serde_json.specs.Data as json
use Rattle.serde_json.specs.Data.{no_items, item}
use Rattle.serde_json.specs.Written.{outline}
use Rattle.jm_json.specs.Json.{tree_of}
use Rattle.jm_json.specs.JsonValues.{data_of}
use Rattle.jm_json.proofs.Writings.{five_added, item_back, array_back}
use Rattle.jm_json.proofs.responses.put_call.Goals as goal

pub returns-clause-tokens : goal.returns-clause-tokens
returns-clause-tokens c =
    let call = c.args.call.now in
    let named = c.in_ok-string.ensures.ok ∙ ap (λ s. c.begin_array.new.self.tokens ++ string s ∷ []) c.as_str.ensures in
    let marked = c.in_ok-string-2.ensures.ok ∙ ap (λ s. c.put_tree.new.out.tokens ++ string s ∷ []) c.as_str-2.ensures in
    five_added c.args.out.now.tokens c.begin_array.new.self.tokens c.string.new.self.tokens c.put_tree.new.out.tokens c.string-2.new.self.tokens c.end_array.new.self.tokens
    (json_tokens (outline (data_of (tree_of call.args)))) begin_array (string call.name) (string call.id) end_array
    c.in_ok-begin_array.ensures.ok named c.in_ok-put_tree.ensures.tokens marked c.in_ok-end_array.ensures.ok

pub returns-clause-read : goal.returns-clause-read
returns-clause-read c =
    let call = c.args.call.now in
    let d = data_of (tree_of call.args) in
    let end = item (json.string call.id) no_items in
    array_back (item (json.string call.name) (item d end))
    (item_back (json.string call.name) (item d end) refl (item_back d end c.in_ok-put_tree.ensures.read (item_back (json.string call.id) no_items refl refl)))

use Rattle.std.proofs.Common.{◌≡◌, ◌+◌, [], ◌∷◌, ◌++◌, map, drop, refl, sym, ap, ◌∙◌, subst, arith, append_assoc}
use Rattle.std.proofs.lemmas.List.{drop_more, drop_all}
use Rattle.json.specs.Token.{begin_array}
use Rattle.json.specs.Tree.{json_tokens, items_tokens}
use Rattle.serde_json.specs.Written.{outline, items_outline}
use Rattle.jm_json.specs.Tree.{trees_of}
use Rattle.jm_json.specs.JsonValues.{data_of, items_of}
use Rattle.jm_json.specs.Invocations.{call_of}
use Rattle.jm_json.specs.Responses.{call_tree}
use Rattle.jm_json.specs.RoundTrips.{AreReadBack}
use Rattle.jm_json.proofs.Writings.{moved, item_back, array_back}
use Rattle.jm_json.proofs.responses.put_calls.Goals as goal

pub loop-call-init : goal.loop-call-init
loop-call-init c =
    let all = items_tokens (items_outline (items_of (trees_of (map call_tree (map call_of c.args.calls.now))))) in
    record {
      tokens = ap (λ ts. ts ++ all) c.in_ok-begin_array.ensures.ok ∙ append_assoc c.args.out.now.tokens (begin_array ∷ []) all;
      before = c.in_ok-begin_array.ensures.room.0;
      read = λ rest. rest;
    }

pub loop-call-preserved : goal.loop-call-preserved
loop-call-preserved c =
    let l = c.loop-call in
    let xs = c.args.calls.now in
    let x = c.call-item.result in
    let d = data_of (call_tree (call_of x)) in
    let after = items_of (trees_of (map call_tree (map call_of (drop (l.call-index + 1) xs)))) in
    let here : drop l.call-index xs ≡ x ∷ drop (l.call-index + 1) xs = drop_more xs l.call-index x (omega arith) ∙ ap (λ y. y ∷ drop (l.call-index + 1) xs) (sym c.call-item.is) in
    record {
      tokens = moved l.out.tokens c.put_call.new.out.tokens (json_tokens (outline d)) (items_tokens (items_outline after)) _ c.in_ok-put_call.ensures.tokens
          (ap (λ ys. l.out.tokens ++ items_tokens (items_outline (items_of (trees_of (map call_tree (map call_of ys)))))) (sym here) ∙ l.invariant.tokens);
      before = c.in_ok-put_call.ensures.before ∙ l.invariant.before;
      read = λ rest. l.invariant.read (subst (λ ys. AreReadBack (items_of (trees_of (map call_tree (map call_of ys))))) (sym here) (item_back d after c.in_ok-put_call.ensures.read rest));
    }

pub returns-clause-tokens : goal.returns-clause-tokens
returns-clause-tokens c =
    let l = c.loop-call in
    let none : drop l.call-index c.args.calls.now ≡ [] = drop_all l.call-index c.args.calls.now (omega arith) in
    c.in_ok-end_array.ensures.ok ∙ ap (λ ys. l.out.tokens ++ items_tokens (items_outline (items_of (trees_of (map call_tree (map call_of ys)))))) (sym none) ∙ l.invariant.tokens

pub returns-clause-read : goal.returns-clause-read
returns-clause-read c =
    let l = c.loop-call in
    let xs = c.args.calls.now in
    let none : drop l.call-index xs ≡ [] = drop_all l.call-index xs (omega arith) in
    array_back (items_of (trees_of (map call_tree (map call_of xs)))) (l.invariant.read (subst (λ ys. AreReadBack (items_of (trees_of (map call_tree (map call_of ys))))) (sym none) refl))

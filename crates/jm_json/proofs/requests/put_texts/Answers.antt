use Rattle.std.proofs.Common.{Bor, List, ℕ, ◌≡◌, ◌+◌, [], ◌∷◌, ◌++◌, map, drop, sym, ap, ◌∙◌, arith, append_assoc}
use Rattle.std.proofs.lemmas.List.{drop_more, drop_all, length-map}
use Rattle.json.specs.Token.{begin_array, string}
use Rattle.json.specs.Tree.{items_tokens}
use Rattle.serde_json.specs.Written.{items_outline}
use Rattle.jm_json.specs.Tree.{text, trees_of}
use Rattle.jm_json.specs.JsonValues.{items_of}
use Rattle.jm_json.proofs.Writings.{moved}
use Rattle.jm_json.proofs.requests.put_texts.Goals as goal

abbrev seen : List (Bor (List ℕ)) → List (List ℕ)
seen xs = map (λ (s : Bor (List ℕ)). s.now) xs

pub loop-i-init : goal.loop-i-init
loop-i-init c =
    let all = items_tokens (items_outline (items_of (trees_of (map text (seen c.args.texts.now))))) in
    record {
      tokens = ap (λ ts. ts ++ all) c.in_ok-begin_array.ensures.ok ∙ append_assoc c.args.out.now.tokens (begin_array ∷ []) all;
      before = c.in_ok-begin_array.ensures.room.0;
    }

pub loop-i-preserved : goal.loop-i-preserved
loop-i-preserved c =
    let l = c.loop-i in
    let xs = seen c.args.texts.now in
    let s = c.lend_text.result.now in
    let after = items_of (trees_of (map text (drop (l.i + 1) xs))) in
    let within = length-map c.args.texts.now (λ (s : Bor (List ℕ)). s.now) in
    let here : drop l.i xs ≡ s ∷ drop (l.i + 1) xs = drop_more xs l.i [] (omega (arith, within)) ∙ ap (λ y. y ∷ drop (l.i + 1) xs) (sym c.lend_text.ensures) in
    record {
      tokens = moved l.out.tokens c.string.new.self.tokens (string s ∷ []) (items_tokens (items_outline after)) _ c.in_ok-string.ensures.ok
          (ap (λ ys. l.out.tokens ++ items_tokens (items_outline (items_of (trees_of (map text ys))))) (sym here) ∙ l.invariant.tokens);
      before = c.in_ok-string.ensures.room.0 ∙ l.invariant.before;
    }

pub returns-clause-tokens : goal.returns-clause-tokens
returns-clause-tokens c =
    let l = c.loop-i in
    let xs = seen c.args.texts.now in
    let within = length-map c.args.texts.now (λ (s : Bor (List ℕ)). s.now) in
    let none : drop l.i xs ≡ [] = drop_all l.i xs (omega (arith, within)) in
    c.in_ok-end_array.ensures.ok ∙ ap (λ ys. l.out.tokens ++ items_tokens (items_outline (items_of (trees_of (map text ys))))) (sym none) ∙ l.invariant.tokens

use Rattle.std.proofs.Common.{Bor, List, ℕ, ◌≡◌, ◌++◌, map, drop}
use Rattle.json.specs.Tree.{json_tokens, items_tokens}
use Rattle.serde_json.specs.Written.{outline, items_outline}
use Rattle.jm_json.specs.Tree.{text, trees_of}
use Rattle.jm_json.specs.JsonValues.{data_of, items_of}
use Rattle.jm_json.specs.Requests.{texts_tree}
use Rattle.jm_json.proofs.requests.put_texts.Given as goal

-- what is left are the tokens of the strings from here on
abbrev pub invariant-loop-i : goal.invariant-loop-i
invariant-loop-i l = record {
  tokens : l.out.tokens ++ items_tokens (items_outline (items_of (trees_of (map text (drop l.i (map (λ (s : Bor (List ℕ)). s.now) l.texts))))))
      ≡ l.fn.out.tokens ++ json_tokens (outline (data_of (texts_tree (map (λ (s : Bor (List ℕ)). s.now) l.texts))));
  before : l.out.before ≡ l.fn.out.before;
}

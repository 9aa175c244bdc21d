use Rattle.std.proofs.Common.{Bor, List, ℕ, [], sym}
use Rattle.std.proofs.lemmas.List.{get_or-map}
use Rattle.jm_json.proofs.requests.lend_text.Goals as goal

pub returns : goal.returns
returns c = sym (get_or-map (λ (s : Bor (List ℕ)). s.now) c.args.texts.now c.args.index _ [] c.requires)

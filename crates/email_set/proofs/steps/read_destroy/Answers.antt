use Rattle.std.proofs.Common.{Bor, List, ℕ, [], sym}
use Rattle.std.proofs.lemmas.List.{get_or-map}
use Rattle.email_set.proofs.steps.read_destroy.Goals as goal

pub returns : goal.returns
returns c = sym (get_or-map (λ (d : Bor (List ℕ)). d.now) c.args.destroys.now c.args.index _ [] c.requires)

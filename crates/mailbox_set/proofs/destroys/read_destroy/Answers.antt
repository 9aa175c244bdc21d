use Rattle.std.proofs.Common.{Bor, List, ℕ, [], sym}
use Rattle.std.proofs.lemmas.List.{get_or-map}
use Rattle.mailbox_set.proofs.destroys.read_destroy.Goals as goal

pub returns : goal.returns
returns c = sym (get_or-map (λ (d : Bor (List ℕ)). d.now) c.args.destroys.now c.args.index _ [] c.requires)

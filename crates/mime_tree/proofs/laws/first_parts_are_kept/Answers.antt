use Rattle.mime_tree.proofs.WalkFacts.{walked-kept}
use Rattle.mime_tree.proofs.laws.first_parts_are_kept.Goals as goal

pub returns : goal.returns
returns c = walked-kept

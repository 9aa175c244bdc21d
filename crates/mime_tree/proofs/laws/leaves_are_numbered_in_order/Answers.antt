use Rattle.mime_tree.proofs.WalkFacts.{numbers-numbered}
use Rattle.mime_tree.proofs.laws.leaves_are_numbered_in_order.Goals as goal

pub returns : goal.returns
returns c = numbers-numbered

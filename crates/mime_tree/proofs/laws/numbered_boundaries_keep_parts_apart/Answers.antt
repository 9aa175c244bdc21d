use Rattle.mime_tree.proofs.WrittenBoundaries.{numbered_apart}
use Rattle.mime_tree.proofs.laws.numbered_boundaries_keep_parts_apart.Goals as goal

pub returns : goal.returns
returns c = numbered_apart

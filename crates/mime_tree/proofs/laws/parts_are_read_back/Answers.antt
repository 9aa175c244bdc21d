use Rattle.mime_tree.proofs.WrittenTrees.{leaf_back, multipart_back}
use Rattle.mime_tree.proofs.laws.parts_are_read_back.Goals as goal

pub returns : goal.returns
returns c = record { leaf = leaf_back; multipart = multipart_back }

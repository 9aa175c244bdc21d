use Rattle.mime_type.proofs.WrittenHeads.{head_back}
use Rattle.mime_type.proofs.laws.heads_are_read_back.Goals as goal

pub returns : goal.returns
returns c = head_back

use Rattle.mime_cut.proofs.ReadFacts.{cut_read}
use Rattle.mime_cut.proofs.laws.pieces_are_in_the_message.Goals as goal

pub returns : goal.returns
returns c = cut_read

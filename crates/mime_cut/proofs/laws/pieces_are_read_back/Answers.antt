use Rattle.mime_cut.proofs.WrittenCuts.{pieces_back}
use Rattle.mime_cut.proofs.laws.pieces_are_read_back.Goals as goal

pub returns : goal.returns
returns c = pieces_back

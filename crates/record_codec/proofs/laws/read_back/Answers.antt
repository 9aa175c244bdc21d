use Rattle.record_codec.proofs.Again.{again}
use Rattle.record_codec.proofs.laws.read_back.Goals as goal

pub returns : goal.returns
returns c = again

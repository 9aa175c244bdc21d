use Rattle.mime_type.proofs.ReadBack.{bare_back}
use Rattle.mime_type.proofs.laws.bare_values_read_back.Goals as goal

pub returns : goal.returns
returns c = bare_back

use Rattle.mime_type.proofs.ReadBack.{type_back}
use Rattle.mime_type.proofs.laws.types_read_back.Goals as goal

pub returns : goal.returns
returns c = type_back

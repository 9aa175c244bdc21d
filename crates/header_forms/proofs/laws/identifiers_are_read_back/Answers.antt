use Rattle.header_forms.proofs.WrittenIds.{ids_back}
use Rattle.header_forms.proofs.laws.identifiers_are_read_back.Goals as goal

pub returns : goal.returns
returns c = ids_back

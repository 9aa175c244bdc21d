use Rattle.header_forms.proofs.WrittenAddresses.{addresses_back}
use Rattle.header_forms.proofs.laws.addresses_are_read_back.Goals as goal

pub returns : goal.returns
returns c = addresses_back

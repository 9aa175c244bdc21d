use Rattle.header_forms.proofs.PlainAddress.{one_address}
use Rattle.header_forms.proofs.laws.plain_texts_are_one_address.Goals as goal

pub returns : goal.returns
returns c = one_address

use Rattle.header_forms.proofs.QuotedName.{quoted_name}
use Rattle.header_forms.proofs.laws.quoted_names_are_read_back.Goals as goal

pub returns : goal.returns
returns c = quoted_name

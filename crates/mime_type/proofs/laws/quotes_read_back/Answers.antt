use Rattle.mime_type.proofs.Quotes.{quoted_back}
use Rattle.mime_type.proofs.laws.quotes_read_back.Goals as goal

pub returns : goal.returns
returns c = quoted_back

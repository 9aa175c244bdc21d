use Rattle.mime_codec.proofs.QuotedBack.{quoted_back}
use Rattle.mime_codec.proofs.laws.quoted_printable_is_read_back.Goals as goal

pub returns : goal.returns
returns c = quoted_back

use Rattle.mime_codec.proofs.Base64Back.{encoded_back, lines_back}
use Rattle.mime_codec.proofs.laws.base64_is_read_back.Goals as goal

pub returns : goal.returns
returns c = record { one_line = encoded_back; lines = lines_back }

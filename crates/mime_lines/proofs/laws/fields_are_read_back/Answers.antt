use Rattle.mime_lines.proofs.WrittenFields.{body_back, fields_back}
use Rattle.mime_lines.proofs.laws.fields_are_read_back.Goals as goal

pub returns : goal.returns
returns c = record { fields = fields_back; body = body_back }

use Rattle.mime_lines.proofs.ReadFacts.{fields_read}
use Rattle.mime_lines.proofs.field.fields_stand.Goals as goal

pub returns : goal.returns
returns c = fields_read

use Rattle.message_texts.proofs.HeaderLines.{found_by_lines}
use Rattle.message_texts.proofs.blob_message.BlobMessage.has_in_field.Goals as goal

pub returns-in-Some-clause-value : goal.returns-in-Some-clause-value
returns-in-Some-clause-value c =
    found_by_lines c.self.inside.bytes.now c.args.self.now c.args.name.now c.args.needle.now c.in-Some.found c.self.view_is c.in-Some.ensures

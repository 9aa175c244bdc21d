use Rattle.std.proofs.Common.{ap}
use Rattle.message_texts.specs.Texts.{message_texts}
use Rattle.message_texts.proofs.blob_message.BlobMessageOpenedMessage.field.Goals as goal

pub returns-in-Some-clause-same : goal.returns-in-Some-clause-same
returns-in-Some-clause-same c = ap message_texts c.has_in_field.ensures.same

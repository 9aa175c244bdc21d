use Rattle.std.proofs.Common.{ap}
use Rattle.message_texts.specs.Texts.{message_texts}
use Rattle.message_texts.proofs.blob_message.BlobMessageOpenedMessage.has.Goals as goal

pub returns-in-From-clause-same : goal.returns-in-From-clause-same
returns-in-From-clause-same c = ap message_texts c.has_in_from.ensures.same

pub returns-in-To-clause-same : goal.returns-in-To-clause-same
returns-in-To-clause-same c = ap message_texts c.has_in_field.ensures.same

pub returns-in-Cc-clause-same : goal.returns-in-Cc-clause-same
returns-in-Cc-clause-same c = ap message_texts c.has_in_field-in-Cc.ensures.same

pub returns-in-Bcc-clause-same : goal.returns-in-Bcc-clause-same
returns-in-Bcc-clause-same c = ap message_texts c.has_in_field-in-Bcc.ensures.same

pub returns-in-Subject-clause-same : goal.returns-in-Subject-clause-same
returns-in-Subject-clause-same c = ap message_texts c.has_in_field-in-Subject.ensures.same

pub returns-in-Body-clause-same : goal.returns-in-Body-clause-same
returns-in-Body-clause-same c = ap message_texts c.has_in_body.ensures.same

pub returns-in-Text-clause-same : goal.returns-in-Text-clause-same
returns-in-Text-clause-same c = ap message_texts c.has_in_text.ensures.same

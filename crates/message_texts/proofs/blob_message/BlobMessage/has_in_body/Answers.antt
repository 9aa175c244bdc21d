use Rattle.message_texts.proofs.Found.{body_found, kept_found}
use Rattle.message_texts.proofs.blob_message.BlobMessage.has_in_body.Goals as goal

pub returns-in-Some-clause-value : goal.returns-in-Some-clause-value
returns-in-Some-clause-value c =
    kept_found c.self.inside.bytes.now c.args.self.now c.args.needle.now c.self.inside.bodies c.in-Some.texts c.as_slice.result.now c.has_in_texts.result
    c.self.view_is c.self.invariant.decoded c.in-Some.is c.as_slice.ensures c.has_in_texts.ensures

pub returns-clause-value : goal.returns-clause-value
returns-clause-value c =
    body_found c.self.inside.bytes.now c.args.self.now c.args.needle.now c.in_ok-texts.texts c.as_slice-2.result.now c.has_in_texts-found.result
    c.self.view_is c.in_ok-texts.ensures c.as_slice-2.ensures c.has_in_texts-found.ensures

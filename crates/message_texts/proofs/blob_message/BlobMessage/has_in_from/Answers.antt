use Rattle.message_texts.proofs.Authors.{found_in_kept}
use Rattle.message_texts.proofs.blob_message.BlobMessage.has_in_from.Goals as goal

pub returns-in-Some-clause-value : goal.returns-in-Some-clause-value
returns-in-Some-clause-value c =
    found_in_kept c.self.inside.bytes.now c.args.self.now c.args.needle.now c.self.inside.from c.in-Some.text c.contains.result
    c.self.view_is c.self.invariant.searched c.in-Some.is c.is_empty.result c.is_empty.ensures c.if-not-is_empty.true c.contains.ensures

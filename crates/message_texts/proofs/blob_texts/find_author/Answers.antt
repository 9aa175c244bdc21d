use Rattle.std.proofs.Common.{◌-◌, refl}
use Rattle.message_texts.proofs.Authors.{text_of_blob}
use Rattle.message_texts.proofs.blob_texts.find_author.Goals as goal

pub returns : goal.returns
returns c =
    text_of_blob c.authors.result.now c.args.blobs.now.blobs c.args.number (c.args.number - 1) c.get.result
    c.if-number-eq0.false (refl) c.authors.ensures c.get.ensures

use Rattle.message_texts.proofs.Authors.{marks_answer}
use Rattle.message_texts.proofs.blob_texts.mark_authors.Goals as goal

pub returns : goal.returns
returns c =
    marks_answer c.args.needle.now c.in_ok-lowered.lowered.items c.as_slice.result.now c.authors.result.now c.args.blobs.now.blobs c.in_ok-marks.marks.items
    c.is_empty.result c.is_empty.ensures c.if-is_empty.false c.in_ok-lowered.ensures.ok c.as_slice.ensures.value c.authors.ensures c.in_ok-marks.ensures

use Rattle.std.proofs.Common.{sym, ap, ◌∙◌}
use Rattle.blob_ids.specs.BlobIds.{blob_with}
use Rattle.blob_ids.proofs.BlobIds.{leaf_read, blob_read}
use Rattle.blob_ids.proofs.ids.read_numbers.Goals as goal

pub returns-in-Some : goal.returns-in-Some
returns-in-Some c = c.read_leaf.ensures ∙ sym (leaf_read c.args.text.now c.in-Some.cut.front.now c.in-Some.cut.rest.now c.in-Some.ensures.0 c.in-Some.ensures.1)

pub returns-in-Some-read_number : goal.returns-in-Some-read_number
returns-in-Some-read_number c = sym (blob_read c.args.text.now c.in-None.ensures ∙ ap blob_with (sym c.in-Some-read_number.ensures))

pub returns-in-None-read_number : goal.returns-in-None-read_number
returns-in-None-read_number c = sym (blob_read c.args.text.now c.in-None.ensures ∙ ap blob_with (sym c.in-None-read_number.ensures))

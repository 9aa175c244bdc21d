use Rattle.std.proofs.Common.{sym}
use Rattle.blob_ids.proofs.BlobIds.{decimal_read, nothing_read}
use Rattle.blob_ids.proofs.ids.read_number.Goals as goal

pub returns-in-Ok : goal.returns-in-Ok
returns-in-Ok c = sym (decimal_read c.args.text.now c.in-Ok.number c.in-Ok.ensures.ok.0 c.in-Ok.ensures.ok.1)

pub returns-in-Err : goal.returns-in-Err
returns-in-Err c = sym (nothing_read c.args.text.now c.in-Err.ensures.err)

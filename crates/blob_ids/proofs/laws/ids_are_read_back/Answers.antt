use Rattle.blob_ids.proofs.BlobIds.{read_back}
use Rattle.blob_ids.proofs.laws.ids_are_read_back.Goals as goal

pub returns : goal.returns
returns c = read_back

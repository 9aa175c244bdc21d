use Rattle.std.proofs.Common.{◌≡◌, ◌++◌, length}
use Rattle.blob_store.specs.Blobs.{AreBlobsFew}
use Rattle.account_book.proofs.blobs.push_all.Given as goal

abbrev pub invariant-loop-blob : goal.invariant-loop-blob
invariant-loop-blob l = record {
  put : l.blobs.blobs ++ l.rest.items ≡ l.fn.blobs.blobs ++ l.fn.more;
  few : AreBlobsFew l.blobs.blobs;
}

abbrev pub decreases-loop-blob : goal.decreases-loop-blob
decreases-loop-blob l = length l.rest.items

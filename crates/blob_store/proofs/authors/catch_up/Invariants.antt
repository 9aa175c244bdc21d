use Rattle.std.proofs.Common.{◌-◌, length}
use Rattle.blob_store.specs.Authors.{AreSearched}
use Rattle.blob_store.proofs.authors.catch_up.Given as goal

abbrev pub invariant-loop-alloc : goal.invariant-loop-alloc
invariant-loop-alloc l = AreSearched l.authors l.blobs

abbrev pub decreases-loop-alloc : goal.decreases-loop-alloc
decreases-loop-alloc l = length l.blobs - length l.authors

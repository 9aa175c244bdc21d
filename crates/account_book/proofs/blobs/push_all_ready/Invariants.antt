use Rattle.std.proofs.Common.{◌≡◌, ◌≤◌, ◌++◌, length}
use Rattle.account_book.proofs.blobs.push_all_ready.Given as goal

abbrev pub invariant-loop-blob : goal.invariant-loop-blob
invariant-loop-blob l = record {
  put : l.blobs.blobs ++ l.rest.items ≡ l.fn.blobs.blobs ++ l.fn.more;
  room : length l.rest.items ≤ l.blobs.spare;
}

abbrev pub decreases-loop-blob : goal.decreases-loop-blob
decreases-loop-blob l = length l.rest.items

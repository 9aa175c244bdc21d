use Rattle.std.proofs.Common.{◌≡◌, ◌+◌, drop, length, take}
use Rattle.account_book.specs.Opening.{AreLoaded}
use Rattle.account_book.proofs.loading.load_rows.Given as goal

abbrev pub invariant-loop-bytes : goal.invariant-loop-bytes
invariant-loop-bytes l = record {
  rest : l.rest.items ≡ drop l.taken l.fn.rows;
  loaded : AreLoaded (take l.taken l.fn.rows) l.loading;
  count : l.taken + length l.rest.items ≡ length l.fn.rows;
  fits : l._count ≡ length l.fn.rows;
}

abbrev pub decreases-loop-bytes : goal.decreases-loop-bytes
decreases-loop-bytes l = length l.rest.items

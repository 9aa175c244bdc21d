use Rattle.std.proofs.Common.{arith}
use Rattle.account_book.proofs.Passing.{greatest_found}
use Rattle.account_book.proofs.passes.find_greatest_pass.Goals as goal

pub returns : goal.returns
returns c =
    greatest_found c.loop-entry.greatest c.loop-entry.entry-index c.entries-entry-items.result.now c.args.account.now.history.entries (omega arith) c.loop-entry.invariant c.entries-entry-items.ensures

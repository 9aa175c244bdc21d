use Rattle.std.proofs.Common.{◌≡◌, drop, max}
use Rattle.account_book.proofs.Passing.{greatest_kept}
use Rattle.account_book.proofs.passes.find_greatest_pass.Given as goal

abbrev pub invariant-loop-entry : goal.invariant-loop-entry
invariant-loop-entry l = max l.greatest (greatest_kept (drop l.entry-index l.entry-items)) ≡ greatest_kept l.entry-items

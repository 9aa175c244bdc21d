use Rattle.std.proofs.Common.{◌≡◌, None, drop}
use Rattle.std.specs.Ordering.{nat_cmp}
use Rattle.tidy_check.specs.Checks.{rises_after}
use Rattle.tidy_check.proofs.rising.are_numbers_rising.Given as goal

abbrev pub invariant-loop-number : goal.invariant-loop-number
invariant-loop-number l = rises_after nat_cmp l.before (drop l.number-index l.numbers) ≡ rises_after nat_cmp None l.numbers

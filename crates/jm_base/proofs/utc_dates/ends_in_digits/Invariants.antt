use Rattle.std.proofs.Common.{◌≡◌, length}
use Rattle.jm_base.specs.UtcDates.{ends_in_digits}
use Rattle.jm_base.proofs.utc_dates.ends_in_digits.Given as goal

abbrev pub invariant-loop-byte : goal.invariant-loop-byte
invariant-loop-byte l = ends_in_digits l.rest ≡ ends_in_digits l.text

abbrev pub decreases-loop-byte : goal.decreases-loop-byte
decreases-loop-byte l = length l.rest

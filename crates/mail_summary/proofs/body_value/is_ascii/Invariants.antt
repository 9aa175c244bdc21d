use Rattle.std.proofs.Common.{length}
use Rattle.std.specs.Str.{IsAscii}
use Rattle.mail_summary.proofs.body_value.is_ascii.Given as goal

abbrev pub invariant-loop-left : goal.invariant-loop-left
invariant-loop-left l = IsAscii l.left → IsAscii l.bytes

abbrev pub decreases-loop-left : goal.decreases-loop-left
decreases-loop-left l = length l.left

use Rattle.std.proofs.Common.{arith}
use Rattle.mime_codec.proofs.Digits.{by_digits}
use Rattle.mime_codec.proofs.quoted.read_digit.Goals as goal

pub returns-clause-none : goal.returns-clause-none
returns-clause-none c = (by_digits c.args.byte _ (omega (arith, c.ranges.byte.fits)) c.entry.ensures).0

pub returns-clause-digit : goal.returns-clause-digit
returns-clause-digit c = (by_digits c.args.byte _ (omega (arith, c.ranges.byte.fits)) c.entry.ensures).1

pub returns-clause-value : goal.returns-clause-value
returns-clause-value c = (by_digits c.args.byte _ (omega (arith, c.ranges.byte.fits)) c.entry.ensures).2

pub returns-clause-small : goal.returns-clause-small
returns-clause-small c = (by_digits c.args.byte _ (omega (arith, c.ranges.byte.fits)) c.entry.ensures).3

use Rattle.std.proofs.Common.{arith}
use Rattle.mime_codec.proofs.Alphabet.{by_table}
use Rattle.mime_codec.proofs.base64.decode_letter.Goals as goal

pub returns-clause-none : goal.returns-clause-none
returns-clause-none c = (by_table c.args.byte _ (omega (arith, c.ranges.byte.fits)) c.entry.ensures).0

pub returns-clause-some : goal.returns-clause-some
returns-clause-some c = (by_table c.args.byte _ (omega (arith, c.ranges.byte.fits)) c.entry.ensures).1

pub returns-clause-small : goal.returns-clause-small
returns-clause-small c = (by_table c.args.byte _ (omega (arith, c.ranges.byte.fits)) c.entry.ensures).2

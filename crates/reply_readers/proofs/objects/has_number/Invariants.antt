use Rattle.std.proofs.Common.{◌≡◌, drop}
use Rattle.jm_base.specs.Splices.{has}
use Rattle.reply_readers.proofs.objects.has_number.Given as goal

abbrev pub invariant-loop-other : goal.invariant-loop-other
invariant-loop-other l = has l.numbers l.number ≡ has (drop l.other-index l.numbers) l.number
